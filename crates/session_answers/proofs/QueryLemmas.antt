-- The frames that answer a query.
use Rattle.std.proofs.Common.{◌≡◌, ◌≢◌, ◌⊎◌, inl, inr, ℕ, Bool, IfOk, List, None, Result, Ok, Err, sym, ap, ◌∙◌, subst, arith, Vec}
use Rattle.std.proofs.lemmas.Bool.Decides.{nat_tests}
use Rattle.std.specs.declared.alloc.Global.{Global}
use Rattle.item_list.specs.Answer.{Answers, and_then}
use Rattle.lookup_table.specs.Tag.{name_place}
use Rattle.profile_text.specs.Tree.{Sections}
use Rattle.route_engine.specs.Aims.{IsRefusalTo, IsReplyTo, TellsTo}
use Rattle.route_engine.specs.Jobs.{IsWithin}
use Rattle.session_answers.specs.Searches.{EndsFor, TellsEnd}
use Rattle.route_engine.specs.Refusals.{RefusesEarly, profile}
use Rattle.route_engine.specs.Settings.{Question}
use Rattle.route_engine.specs.Replies.{question_of}
use Rattle.route_ready.specs.Entries.{names_of}
use Rattle.route_http.specs.Asked.{Asked}
use Rattle.route_http.specs.Frames.{frame_of}
use Rattle.route_http.proofs.CallerLemmas.{read-limited}
use Rattle.route_http.specs.Lines.{request_line}
use Rattle.route_http.specs.Request.{request_by}
use Rattle.route_http.specs.Seen.{asked}
use Rattle.route_http.specs.declared.asked.Request.{Request}
use Rattle.route_http.specs.declared.form.Form.{Form}
use Rattle.route_http.specs.declared.error.RequestError.{RequestError}
use Rattle.route_http.specs.declared.error.RequestError.TheVariants as request
use Rattle.route_http.specs.declared.kind.Kind.{Kind}
use Rattle.route_ready.specs.Readiness.{ready_of}
use Rattle.route_ready.specs.declared.error.RouteError.{RouteError}
use Rattle.route_ready.specs.declared.error.RouteError.TheVariants as route
use Rattle.session_answers.proofs.StoredLemmas.{unknown_at}
use Rattle.session_answers.specs.Aims.{kind_for}
use Rattle.session_answers.specs.Frames.{line_frame, refusal_frame}
use Rattle.session_answers.specs.Jobs.{IsJobOf}
use Rattle.session_answers.specs.Rows.{Asks, IsEarlyFrame, IsQueryFrame, early, malformed, refused, route_frame, told, unknown}
use Rattle.session_answers.specs.Sites.{Site, asked_for, limited, request_at, spelt_for}
use Rattle.session_answers.specs.Stored.{Stored}
use Rattle.route_engine.specs.declared.aim.Aim.{Aim}
use Rattle.route_engine.specs.declared.aim.Aim.TheVariants.{Certificate, Track, Table, Within}
use Rattle.session_answers.specs.declared.kept.KeptProfiles.{KeptProfiles}
use Rattle.session_answers.specs.declared.search.Search.{Search}
use Rattle.session_answers.specs.declared.refusal.Refusal.TheVariants.{UnknownProfile}

-- what isn't want of memory is the other reason
reason : {E : Type 0} {P : Type 0} (e no_memory : E) → (e ≡ no_memory) ⊎ P → e ≢ no_memory → P
reason e no_memory (inl is) differ = absurd (differ is)
reason e no_memory (inr p) differ = p

-- a request that a query spells is answered with no more labels than a site allows, where it may be asked so
pub spelt-at : (site : Site) (aim : Aim) (query : List ℕ) (asked at : Asked) → spelt_for aim query ≡ Ok asked →
    at ≡ limited site.labels asked → request_at site aim query ≡ asked_for aim at
spelt-at site aim query asked at spelt is =
    ap (λ r. and_then r (λ (a : Asked). asked_for aim (limited site.labels a))) spelt ∙ ap (asked_for aim) (sym is)

-- one that it doesn't spell isn't
pub failed-at : (site : Site) (aim : Aim) (query : List ℕ) (e : RequestError) → spelt_for aim query ≡ Err e → request_at site aim query ≡ Err e
failed-at site aim query e failed = ap (λ r. and_then r (λ (a : Asked). asked_for aim (limited site.labels a))) failed

-- it is within the limits of a request
pub limited-within : (labels : ℕ) (asked at : Asked) → at ≡ limited labels asked → IsWithin asked → IsWithin at
limited-within labels asked at is within =
    subst IsWithin (sym is)
    (record { some = within.some; few = within.few; alternative = within.alternative; labels = grind (arith, nat_tests, within.labels); sources = within.sources; destinations = within.destinations })

-- so is one that was read
pub read-within : (costed tabled : Bool) (form : Form) (query : List ℕ) (result : Result Request RequestError) →
    Answers asked (request_by costed tabled form query) request.NoMemory result → IfOk result (λ r. IsWithin (asked r))
read-within costed tabled form query (Ok read) is =
    let limits = read-limited costed tabled form query (asked read) is in
    record { some = limits.some; few = limits.few; alternative = limits.alternative; labels = omega (arith, limits.labels); sources = limits.sources; destinations = limits.destinations }
read-within costed tabled form query (Err e) is = _

module _ (site : Site) (stored : List Stored) (aim : Aim) (query : List ℕ) where
  -- a query that is no request
  pub malformed-frame : (e : RequestError) (frame : List ℕ) → (e ≡ request.NoMemory) ⊎ (request_at site aim query ≡ Err e) → e ≢ request.NoMemory →
      frame ≡ line_frame 400 (request_line e) → IsEarlyFrame site stored aim query frame
  malformed-frame e frame why differ is =
      subst (IsEarlyFrame site stored aim query) (sym is)
      (malformed (reason e request.NoMemory why differ))

  -- a request whose profile has no place
  pub unknown-frame : (asked : Asked) (frame : List ℕ) → request_at site aim query ≡ Ok asked →
      name_place (names_of stored) asked.profile ≡ None → frame ≡ refusal_frame UnknownProfile → IsEarlyFrame site stored aim query frame
  unknown-frame asked frame asks none is =
      subst (IsEarlyFrame site stored aim query) (sym is) (unknown asks (unknown_at stored asked.profile none))

  module _ (asked : Asked) (sections : Sections) (asks : Asks site stored aim query asked sections) (e : RouteError) (frame : List ℕ)
      (differ : e ≢ route.NoMemory) (is : frame ≡ route_frame sections e) where
    -- a request that is refused before any search
    pub early-frame : RefusesEarly (question_of site.world sections asked) e → IsEarlyFrame site stored aim query frame
    early-frame why =
        subst (IsEarlyFrame site stored aim query) (sym is) (early asks (reason e route.NoMemory why differ))

    -- one whose profile is refused
    pub profile-frame : (e ≡ route.NoMemory) ⊎ (ready_of (question_of site.world sections asked).binding ≡ Err e) →
        IsEarlyFrame site stored aim query frame
    profile-frame why =
        subst (IsEarlyFrame site stored aim query) (sym is) (early asks (profile (reason e route.NoMemory why differ)))

    -- one that has no reply
    pub refused-frame : (e ≡ route.NoMemory) ⊎ IsRefusalTo aim (question_of site.world sections asked) e →
        IsQueryFrame site stored aim query frame
    refused-frame why =
        subst (IsQueryFrame site stored aim query) (sym is) (refused asks e (reason e route.NoMemory why differ))

  -- a reply
  pub reply-frame : (asked : Asked) (sections : Sections) → Asks site stored aim query asked sections → (kind : Kind)
      (bytes frame : List ℕ) → kind ≡ kind_for aim asked.form → IsReplyTo aim (question_of site.world sections asked) bytes →
      frame ≡ frame_of 200 kind bytes → IsQueryFrame site stored aim query frame
  reply-frame asked sections asks kind bytes frame kind_is replies is =
      subst (IsQueryFrame site stored aim query) (sym (is ∙ ap (λ (k : Kind). frame_of 200 k bytes) kind_is)) (told asks bytes replies)

-- what a search for a query ends with
module _ (site : Site) (stored : List Stored) (kept : KeptProfiles) (aim : Aim) (query : List ℕ) (p : Search) (job :
    IsJobOf site stored kept aim query p) where
  -- a refusal, by what it is asked for
  refuses : (a : Aim) (question : Question) (e : RouteError) → TellsTo a question (Err e) → (e ≡ route.NoMemory) ⊎ IsRefusalTo a question e
  refuses Track question e is = is
  refuses Table question e is = is
  refuses Certificate question e is = is
  refuses Within question e is = is

  -- and a reply
  replies : (a : Aim) (question : Question) (bytes : List ℕ) → TellsTo a question (Ok bytes) → IsReplyTo a question bytes
  replies Track question bytes is = is
  replies Table question bytes is = is
  replies Certificate question bytes is = is
  replies Within question bytes is = is

  -- the frame that tells what it ends with answers the query
  pub query-told : (sections : Sections) → sections ≡ job.sections → (end : Result (Vec ℕ Global) RouteError) (frame : List ℕ) →
      EndsFor site.world job.sections aim job.asked end → TellsEnd sections p.kind end frame → IsQueryFrame site stored aim query frame
  query-told sections same (Ok bytes) frame ends is =
      reply-frame site stored aim query job.asked job.sections job.asks p.kind bytes.items frame job.is.kind
      (replies aim (question_of site.world job.sections job.asked) bytes.items ends) is
  query-told sections same (Err e) frame ends is =
      refused-frame site stored aim query job.asked job.sections job.asks e frame is.0
      (is.1 ∙ ap (λ (s : Sections). route_frame s e) same)
      (refuses aim (question_of site.world job.sections job.asked) e ends)
