-- Wrong runs, which the definition of a frame's cause refuses.
use Rattle.std.proofs.Common.{◌≡◌, ◌≢◌, ◌⊎◌, ◌<◌, ℕ, ◌-◌, Bool, true, false, List, [], ◌∷◌, ◌++◌, length, get_or, Some, None, Result, Ok, Err, inl, inr, sym, ◌∙◌, ap, subst, arith, eqb-true, length-append}
use Rattle.std.specs.Fmt.{digits}
use Rattle.edge_io.specs.Acts.{Act, is_event_of, told}
use Rattle.edge_io.specs.declared.event.Event.{Event}
use Rattle.edge_io.specs.declared.event.Event.TheVariants.{Opened, Bytes, Ended, Lost, Quiet, Over}
use Rattle.hall.proofs.GrowthLemmas.{StandsBefore, events_in_order}
use Rattle.hall.proofs.FrameLemmas.{no_success-early, status-200, status-422, status-refusal, status_in}
use Rattle.hall.specs.Allowed as rows
use Rattle.hall.specs.Allowed.{IsRowOf}
use Rattle.hall.specs.Causes.{HasCause, HearsIn, IsDecidedIn, away, memory, row}
use Rattle.hall.specs.State.{site_in, Service, State}
use Rattle.hall.specs.Turns.{EventOf, Meets, Turns}
use Rattle.profile_text.specs.Lines.{text_line}
use Rattle.profile_text.specs.Read.{profile_of}
use Rattle.profile_text.specs.Tree.{Sections}
use Rattle.profile_text.specs.declared.error.TextError.{TextError}
use Rattle.route_http.specs.Asked.{Asked}
use Rattle.route_http.specs.Frames.{frame_of, length_line, reason_of, status_line, type_line}
use Rattle.route_http.specs.declared.kind.Kind.TheVariants.{Csv, Json, Plain}
use Rattle.route_http.specs.declared.span.Span.{Span}
use Rattle.route_ready.specs.Lines.{route_line}
use Rattle.session_answers.proofs.CallerLemmas.{verdict_unique}
use Rattle.session_answers.specs.Aims.{kind_for}
use Rattle.session_answers.specs.Frames.{line_frame, refusal_frame, status_of}
use Rattle.session_answers.specs.Rows as queries
use Rattle.session_answers.specs.Rows.{Asks, IsQueryFrame}
use Rattle.session_answers.specs.Stored.{Stored, by_check, by_text, find_stored, upload_reply}
use Rattle.session_answers.specs.Verdicts.{IsVerdict, part}
use Rattle.route_engine.specs.declared.aim.Aim.{Aim}
use Rattle.route_engine.specs.declared.aim.Aim.TheVariants.{Table}
use Rattle.session_answers.specs.declared.refusal.Refusal.{Refusal}
use Rattle.session_answers.specs.declared.refusal.Refusal.TheVariants.{BadRequest, OutOfMemory, UnknownProfile, SessionsFull}
use Rattle.session_answers.specs.declared.verdict.Verdict.{Verdict}
use Rattle.session_answers.specs.declared.verdict.Verdict.TheVariants.{Undecided, Refused, Upload, Query}

-- ---- What only a row has

-- a row is the cause
pub record HasRow (service : Service) (meets : Meets) (id : ℕ) (acts : List Act) (frame : List ℕ) : Type 0 where
  pub state : State
  pub bytes : List ℕ
  pub ended : Bool
  pub added : List Stored
  pub decided : IsDecidedIn meets id acts state bytes ended added
  pub is : IsRowOf service state.stored bytes ended frame added

-- so it is of each frame but those of want of memory and of a full server
only_row : (service : Service) (meets : Meets) (id : ℕ) (acts : List Act) (frame : List ℕ) → status_in frame < 500 →
    HasCause service meets id acts frame → HasRow service meets id acts frame
only_row service meets id acts frame below (away opening full turned) = absurd (omega (arith, status-refusal SessionsFull, below))
only_row service meets id acts frame below (memory decided some) = absurd (omega (arith, status-refusal OutOfMemory, below))
only_row service meets id acts frame below (row {state} {bytes} {ended} {added} decided is) =
    record { state = state; bytes = bytes; ended = ended; added = added; decided = decided; is = is }

-- ---- A well-formed query for a stored profile

-- so much is decided to be a well-formed query for a profile that is stored
pub record IsKnown (service : Service) (stored : List Stored) (bytes : List ℕ) (ended : Bool) : Type 0 where
  pub aim : Aim
  pub span : Span
  pub verdict : IsVerdict bytes ended (Query aim span)
  pub asked : Asked
  pub sections : Sections
  pub asks : Asks (site_in service) stored aim (part bytes span) asked sections

-- it is answered by a reply, or by why there is none
known_query : (service : Service) (stored : List Stored) (aim : Aim) (query : List ℕ) (asked : Asked) (sections : Sections)
    (frame : List ℕ) → Asks (site_in service) stored aim query asked sections → IsQueryFrame (site_in service) stored aim query frame →
    (status_in frame ≡ 200) ⊎ (status_in frame ≡ 422)
known_query service stored aim query asked sections frame asks (queries.before (queries.malformed {e} failed)) =
    (let clash : Ok asked ≡ Err e = sym asks.asks ∙ failed in absurd (cc))
known_query service stored aim query asked sections frame asks (queries.before (queries.unknown {asked = other} other_asks unknown)) =
    (let one : Ok asked ≡ Ok other = sym asks.asks ∙ other_asks in
    let same : asked ≡ other = cc in
    let clash : Some sections ≡ None = sym asks.found ∙ ap (λ (a : Asked). find_stored stored a.profile) same ∙ unknown in
    absurd (cc))
known_query service stored aim query asked sections frame asks (queries.before (queries.early {sections = found} {e} other early)) =
    inr (status-422 Plain (route_line (Some found) e ++ 10 ∷ []))
known_query service stored aim query asked sections frame asks (queries.refused {sections = found} other e answer) =
    inr (status-422 Plain (route_line (Some found) e ++ 10 ∷ []))
known_query service stored aim query asked sections frame asks (queries.told {asked = other} other_asks bytes reply) =
    inl (status-200 (kind_for aim other.form) bytes)

known_row : (service : Service) (stored : List Stored) (bytes : List ℕ) (ended : Bool) (frame : List ℕ) (added : List Stored) →
    IsKnown service stored bytes ended → IsRowOf service stored bytes ended frame added → (status_in frame ≡ 200) ⊎ (status_in frame ≡ 422)
known_row service stored bytes ended frame added known (rows.refused {r} other) =
    (let clash : Query known.aim known.span ≡ Refused r =
    verdict_unique bytes ended (Query known.aim known.span) (Refused r) known.verdict other in
    absurd (cc))
known_row service stored bytes ended frame added known (rows.upload {span} other) =
    (let clash : Query known.aim known.span ≡ Upload span =
    verdict_unique bytes ended (Query known.aim known.span) (Upload span) known.verdict other in
    absurd (cc))
known_row service stored bytes ended frame added known (rows.query {aim} {span} other answers) =
    let one : Query aim span ≡ Query known.aim known.span =
    verdict_unique bytes ended (Query aim span) (Query known.aim known.span) other known.verdict in
    let same : span ≡ known.span = cc in
    let aims : aim ≡ known.aim = cc in
    known_query service stored known.aim (part bytes known.span) known.asked known.sections frame known.asks
    (subst (λ (a : Aim). IsQueryFrame (site_in service) stored a (part bytes known.span) frame) aims
    (subst (λ (x : Span). IsQueryFrame (site_in service) stored aim (part bytes x) frame) same answers))

module _ (service : Service) (meets : Meets) (id : ℕ) (acts : List Act) (frame : List ℕ) (known : (state : State) (bytes : List ℕ)
    (ended : Bool) (added : List Stored) → IsDecidedIn meets id acts state bytes ended added → IsKnown service state.stored bytes ended) where
  no_refusal : (r : Refusal) → status_of r ≢ 200 → status_of r < 422 → frame ≡ refusal_frame r → HasCause service meets id acts frame → ⊥
  no_refusal r fails below is cause =
      let status : status_in frame ≡ status_of r = ap status_in is ∙ status-refusal r in
      let found = only_row service meets id acts frame (omega (arith, status, below)) cause in
      elim (known_row service found.state.stored found.bytes found.ended frame found.added
      (known found.state found.bytes found.ended found.added found.decided) found.is) [
        | inl success ↦ fails (sym status ∙ success)
        | inr refused ↦ omega (arith, status, below, refused)
      ]

  -- it isn't told that its profile is unknown
  pub no_unknown : frame ≡ refusal_frame UnknownProfile → HasCause service meets id acts frame → ⊥
  no_unknown = no_refusal UnknownProfile (λ h. omega arith) (omega arith)

  -- nor that its request was bad, whatever its peer did since
  pub no_bad_request : frame ≡ refusal_frame BadRequest → HasCause service meets id acts frame → ⊥
  no_bad_request = no_refusal BadRequest (λ h. omega arith) (omega arith)

-- ---- A query for a table of costs

-- so much is decided to be a query for a table
pub record IsForTable (bytes : List ℕ) (ended : Bool) : Type 0 where
  pub span : Span
  pub verdict : IsVerdict bytes ended (Query Table span)

-- lines are of another kind than JSON
lines_and_json : (lines body : List ℕ) → frame_of 200 Csv lines ≢ frame_of 200 Json body
unfolding frame_of status_line type_line reason_of digits
lines_and_json lines body is = let clash : ◌≡◌ {A = ℕ} 116 97 = ap (λ (f : List ℕ). get_or f 31 0) is in omega arith

table_query : (service : Service) (stored : List Stored) (query frame lines : List ℕ) → frame ≡ frame_of 200 Csv lines →
    IsQueryFrame (site_in service) stored Table query frame → ⊥
table_query service stored query frame lines is (queries.before at_once) =
    no_success-early service stored Table query frame at_once (ap status_in is ∙ status-200 Csv lines)
table_query service stored query frame lines is (queries.refused {sections} asks e answer) =
    omega (arith, status-422 Plain (route_line (Some sections) e ++ 10 ∷ []), status-200 Csv lines, ap status_in is)
table_query service stored query frame lines is (queries.told asks bytes reply) = lines_and_json lines bytes (sym is)

table_row : (service : Service) (stored : List Stored) (bytes : List ℕ) (ended : Bool) (frame lines : List ℕ) (added : List Stored) →
    IsForTable bytes ended → frame ≡ frame_of 200 Csv lines → IsRowOf service stored bytes ended frame added → ⊥
table_row service stored bytes ended frame lines added known is (rows.refused {r} other) =
    (let clash : Query Table known.span ≡ Refused r =
    verdict_unique bytes ended (Query Table known.span) (Refused r) known.verdict other in
    cc)
table_row service stored bytes ended frame lines added known is (rows.upload {span} other) =
    (let clash : Query Table known.span ≡ Upload span =
    verdict_unique bytes ended (Query Table known.span) (Upload span) known.verdict other in
    cc)
table_row service stored bytes ended frame lines added known is (rows.query {aim} {span} other answers) =
    let one : Query aim span ≡ Query Table known.span =
    verdict_unique bytes ended (Query aim span) (Query Table known.span) other known.verdict in
    let same : aim ≡ Table = cc in
    table_query service stored (part bytes span) frame lines is
    (subst (λ (a : Aim). IsQueryFrame (site_in service) stored a (part bytes span) frame) same answers)

-- it isn't answered in lines, as a track may be
pub no_lines_for_a_table : (service : Service) (meets : Meets) (id : ℕ) (acts : List Act) (frame lines : List ℕ) → ((state : State)
    (bytes : List ℕ) (ended : Bool) (added : List Stored) → IsDecidedIn meets id acts state bytes ended added → IsForTable bytes ended) →
    frame ≡ frame_of 200 Csv lines → HasCause service meets id acts frame → ⊥
no_lines_for_a_table service meets id acts frame lines known is cause =
    let status : status_in frame ≡ 200 = ap status_in is ∙ status-200 Csv lines in
    let found = only_row service meets id acts frame (omega (arith, status)) cause in
    table_row service found.state.stored found.bytes found.ended frame lines found.added
    (known found.state found.bytes found.ended found.added found.decided) is found.is

-- ---- One name for two uploads

-- the replies of the first upload and of the second differ
first_and_second : frame_of 200 Json (upload_reply 1) ≢ frame_of 200 Json (upload_reply 2)
unfolding frame_of status_line type_line length_line reason_of digits
first_and_second is = let clash : ◌≡◌ {A = ℕ} 49 50 = ap (λ (f : List ℕ). get_or f 158 0) is in omega arith

line_never : (line : List ℕ) → line_frame 422 line ≢ frame_of 200 Json (upload_reply 1)
line_never line is = omega (arith, status-422 Plain (line ++ 10 ∷ []), status-200 Json (upload_reply 1), ap status_in is)

second_is : (table : _) (read : Result Sections TextError) → (by_text table 1 read).frame ≢ frame_of 200 Json (upload_reply 1)
second_is table (Err e) is =
    omega (arith, status-422 Plain (text_line e ++ 10 ∷ []), status-200 Json (upload_reply 1), ap status_in is)
second_is table (Ok sections) is = by_found _ is
  where
    by_found : (found : _) → (by_check 1 sections found).frame ≢ frame_of 200 Json (upload_reply 1)
    by_found (Some e) = line_never _
    by_found None = λ is. first_and_second (sym is)

name_row : (service : Service) (stored : List Stored) (bytes : List ℕ) (ended : Bool) (span : Span) (frame : List ℕ)
    (added : List Stored) → IsVerdict bytes ended (Upload span) → length stored - service.given ≡ 1 →
    frame ≡ frame_of 200 Json (upload_reply 1) → IsRowOf service stored bytes ended frame added → ⊥
name_row service stored bytes ended span frame added verdict one is (rows.refused {r} other) =
    (let clash : Upload span ≡ Refused r = verdict_unique bytes ended (Upload span) (Refused r) verdict other in cc)
name_row service stored bytes ended span frame added verdict one is (rows.query {aim} {span = asked} other answers) =
    (let clash : Upload span ≡ Query aim asked = verdict_unique bytes ended (Upload span) (Query aim asked) verdict other in cc)
name_row service stored bytes ended span frame added verdict one is (rows.upload {span = found} other) =
    second_is service.world.table (profile_of (part bytes found))
    (ap (λ (n : ℕ). (by_text service.world.table n (profile_of (part bytes found))).frame) (sym one) ∙ is)

-- an upload is decided after one other that was stored
pub record IsSecond (service : Service) (stored : List Stored) (bytes : List ℕ) (ended : Bool) : Type 0 where
  pub span : Span
  pub verdict : IsVerdict bytes ended (Upload span)
  pub one : length stored - service.given ≡ 1

-- it isn't told the name of the first
pub no_name_twice : (service : Service) (meets : Meets) (id : ℕ) (acts : List Act) (frame : List ℕ) → ((state : State) (bytes : List ℕ)
    (ended : Bool) (added : List Stored) → IsDecidedIn meets id acts state bytes ended added → IsSecond service state.stored bytes ended) →
    frame ≡ frame_of 200 Json (upload_reply 1) → HasCause service meets id acts frame → ⊥
no_name_twice service meets id acts frame second is cause =
    let status : status_in frame ≡ 200 = ap status_in is ∙ status-200 Json (upload_reply 1) in
    let found = only_row service meets id acts frame (omega (arith, status)) cause in
    let later = second found.state found.bytes found.ended found.added found.decided in
    name_row service found.state.stored found.bytes found.ended later.span frame found.added later.verdict later.one is found.is

-- an event is one of one connection
one_owner : (id other : ℕ) (event : Event) → is_event_of id event ≡ true → is_event_of other event ≡ true → id ≡ other
one_owner id other (Opened at) mine its = sym (eqb-true at id mine) ∙ eqb-true at other its
one_owner id other (Bytes at n) mine its = sym (eqb-true at id mine) ∙ eqb-true at other its
one_owner id other (Ended at) mine its = sym (eqb-true at id mine) ∙ eqb-true at other its
one_owner id other (Lost at) mine its = sym (eqb-true at id mine) ∙ eqb-true at other its
one_owner id other Quiet mine its = (let clash : false ≡ true = mine in cc)
one_owner id other Over mine its = (let clash : false ≡ true = mine in cc)

-- what an accepted upload met is less than what was stored after it
stored_more : (state stepped later : State) (profile : Stored) → stepped.stored ≡ state.stored ++ profile ∷ [] →
    StandsBefore stepped.stored later.stored → length state.stored < length later.stored
stored_more state stepped later profile stores before =
    omega (
      arith,
      ap length stores,
      length-append state.stored (profile ∷ []),
      ap length before.1,
      length-append stepped.stored before.0,
    )

-- the numbers of two accepted uploads of a run differ
pub no_shared_number : (service : Service) (s new : State) (n : ℕ) (acts : List Act) (turns : Turns service s n acts new)
    (id other : ℕ) → id ≢ other → (state its_state : State) (bytes its_bytes : List ℕ) (ended its_end : Bool)
    (profile its_profile : Stored) →
    IsDecidedIn (EventOf turns) id acts state bytes ended (profile ∷ []) →
    IsDecidedIn (EventOf turns) other acts its_state its_bytes its_end (its_profile ∷ []) → length state.stored ≢ length its_state.stored
no_shared_number service s new n acts turns id other differ state its_state bytes its_bytes ended its_end profile its_profile mine
    its same =
    elim (events_in_order service s new n acts turns _ _ state its_state mine.event its.event mine.given its.given mine.stepped its.stepped
    mine.met its.met) [
      | inl before ↦ omega (arith, same, stored_more state mine.stepped its_state profile mine.stores before)
      | inr (inl after) ↦ omega (arith, same, stored_more its_state its.stepped state its_profile its.stores after)
      | inr (inr one) ↦
          differ (one_owner id other its.event (subst (λ (e : Event). is_event_of id e ≡ true) one mine.hears.own) its.hears.own)
    ]

-- ---- The end after a whole request

-- the end of a peer decides nothing where its request was decided before
pub no_end_decides : (id : ℕ) (before : List Act) (event : Event) (given bytes : List ℕ) (ended : Bool) (verdict : Verdict) →
    IsVerdict (told id before).came (told id before).ended verdict → verdict ≢ Undecided → HearsIn id before event given bytes ended → ⊥
no_end_decides id before event given bytes ended verdict was decided hears =
    decided (verdict_unique (told id before).came (told id before).ended verdict Undecided was hears.undecided)
