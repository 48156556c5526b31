-- Wrong runs that tell `sessions full`, which the definition of a frame's cause refuses.
use Rattle.std.proofs.Common.{◌≡◌, ◌≢◌, ◌==◌, ℕ, ◌+◌, ◌-◌, Bool, true, false, not, ◌&&◌, nat_lt, nat_le, cond, List, [], ◌∷◌, ◌++◌, length, get_or, Some, None, Result, Ok, Err, sym, ◌∙◌, ap, subst, arith}
use Rattle.std.specs.Fmt.{digits}
use Rattle.edge_io.specs.Acts.{Act}
use Rattle.hall.proofs.CountLemmas.{Counts-same}
use Rattle.hall.proofs.FrameLemmas.{status-200, status-400, status-422, status-refusal, status_in}
use Rattle.hall.specs.Allowed as rows
use Rattle.hall.specs.Allowed.{IsRowOf}
use Rattle.hall.specs.Causes.{HasCause, OpensIn, away, memory, row}
use Rattle.hall.specs.Held.{HasRoom, IsFull}
use Rattle.hall.specs.State.{site_in, Service, State}
use Rattle.hall.specs.Steps.{full_frame}
use Rattle.hall.specs.Turns.{Meets}
use Rattle.profile_text.specs.Lines.{text_line}
use Rattle.profile_text.specs.Read.{profile_of}
use Rattle.profile_text.specs.Tree.{Sections}
use Rattle.profile_text.specs.declared.error.TextError.{TextError}
use Rattle.route_http.specs.Frames.{frame_of, length_line, reason_of, status_line, type_line}
use Rattle.route_http.specs.Lines.{request_line}
use Rattle.route_http.specs.declared.heads.Head.{Head}
use Rattle.route_http.specs.declared.heads.Head.TheVariants.{Whole, More, Bad, TooLong}
use Rattle.route_http.specs.declared.heads.Method.{Method}
use Rattle.route_http.specs.declared.heads.Method.TheVariants.{Get, Post, Other}
use Rattle.route_http.specs.declared.kind.Kind.TheVariants.{Json, Plain}
use Rattle.route_http.specs.declared.span.Span.{Span}
use Rattle.route_ready.specs.Lines.{route_line}
use Rattle.session_answers.specs.Aims.{kind_for}
use Rattle.session_answers.specs.Frames.{line_frame, refusal_frame, status_of}
use Rattle.session_answers.specs.Rows as queries
use Rattle.session_answers.specs.Rows.{IsQueryFrame}
use Rattle.session_answers.specs.Stored.{Stored, Uploaded, by_check, by_text, most_uploads, stored_after, upload_name, upload_reply}
use Rattle.session_answers.proofs.CallerLemmas.{if-so, path-so}
use Rattle.session_answers.specs.Verdicts.{by_path, is_whole, most_body, of_query, of_upload, part, verdict_by}
use Rattle.route_engine.specs.declared.aim.Aim.{Aim}
use Rattle.session_answers.specs.declared.refusal.Refusal.TheVariants.{BadRequest, BodyTooLong, OutOfMemory, UnknownProfile, SessionsFull, UploadsFull}
use Rattle.session_answers.specs.declared.verdict.Verdict.{Verdict}
use Rattle.session_answers.specs.declared.verdict.Verdict.TheVariants.{Undecided, NoByte, Refused, Upload, Query}

-- no verdict refuses with the status of a full server
abbrev NotFull : Verdict → Type 0
NotFull Undecided = Unit {0}
NotFull NoByte = Unit {0}
NotFull (Refused r) = status_of r ≢ 503
NotFull (Upload span) = Unit {0}
NotFull (Query aim span) = Unit {0}

asked_never : (aim : Aim) (method : Method) (query : Span) (body : ℕ) → NotFull (of_query aim method query body)
asked_never aim Get query body = if-so NotFull (nat_lt most_body body) (Refused BodyTooLong) (Query aim query) (λ is. omega arith) tt
asked_never aim Post query body = λ is. omega arith
asked_never aim Other query body = λ is. omega arith

upload_never : (long : ℕ) (method : Method) (body : ℕ) (bytes : List ℕ) → NotFull (of_upload long method body bytes)
upload_never long Get body bytes = λ is. omega arith
upload_never long Other body bytes = λ is. omega arith
upload_never long Post body bytes =
    let text : Verdict = Upload (record { start = long; end = long + body }) in
    if-so NotFull (nat_lt most_body body) (Refused BodyTooLong) (cond (nat_le (long + body) (length bytes)) text Undecided) (λ is. omega arith)
    (if-so NotFull (nat_le (long + body) (length bytes)) text Undecided tt tt)

path_never : (path : List ℕ) (long : ℕ) (method : Method) (query : Span) (body : ℕ) (bytes : List ℕ) →
    NotFull (by_path path long method query body bytes)
path_never path long method query body bytes =
    path-so NotFull path long method query body bytes (λ aim. asked_never aim method query body)
    (upload_never long method body bytes) (λ is. omega arith)

verdict_never : (head : Head) (bytes : List ℕ) (ended : Bool) → NotFull (verdict_by head bytes ended)
verdict_never TooLong bytes ended = λ is. omega arith
verdict_never Bad bytes ended = λ is. omega arith
verdict_never More bytes false = tt
verdict_never More bytes true = if-so NotFull (nat_lt 0 (length bytes)) (Refused BadRequest) NoByte (λ is. omega arith) tt
verdict_never (Whole long method path query body) bytes ended =
    if-so NotFull (ended && not (is_whole long method body bytes)) (Refused BadRequest)
    (by_path (part bytes path) long method query body bytes) (λ is. omega arith)
    (path_never (part bytes path) long method query body bytes)

-- nor is a query answered in it
query_never : (service : Service) (stored : List Stored) (aim : Aim) (query frame : List ℕ) →
    IsQueryFrame (site_in service) stored aim query frame → status_in frame ≢ 503
query_never service stored aim query frame (queries.before (queries.malformed {e} failed)) is =
    omega (arith, status-400 Plain (request_line e ++ 10 ∷ []), is)
query_never service stored aim query frame (queries.before (queries.unknown asks unknown)) is = omega (arith, status-refusal UnknownProfile, is)
query_never service stored aim query frame (queries.before (queries.early {sections} {e} asks early)) is =
    omega (arith, status-422 Plain (route_line (Some sections) e ++ 10 ∷ []), is)
query_never service stored aim query frame (queries.refused {sections} asks e answer) is =
    omega (arith, status-422 Plain (route_line (Some sections) e ++ 10 ∷ []), is)
query_never service stored aim query frame (queries.told {asked} asks bytes reply) is =
    omega (arith, status-200 (kind_for aim asked.form) bytes, is)

-- that no more uploads are stored is told otherwise than that no more sessions are held
uploads_and_sessions : refusal_frame UploadsFull ≢ full_frame
unfolding refusal_frame frame_of status_line type_line length_line reason_of digits
uploads_and_sessions is = let clash : ◌≡◌ {A = ℕ} 51 52 = ap (λ (f : List ℕ). get_or f 92 0) is in omega arith

by_room : (uploads : ℕ) (sections : Sections) → (stored_after uploads sections).frame ≢ full_frame
by_room uploads sections =
    elim (uploads == most_uploads) as (λ b. (cond {A = Uploaded} b (record { frame = refusal_frame UploadsFull; added = [] })
    (record { frame = frame_of 200 Json (upload_reply (uploads + 1)); added = (upload_name (uploads + 1), sections) ∷ [] })).frame
    ≢ full_frame) [
      | true ↦ uploads_and_sessions
      | false ↦ λ is. omega (arith, status-200 Json (upload_reply (uploads + 1)), status-refusal SessionsFull, ap status_in is)
    ]

line_never : (line : List ℕ) → line_frame 422 line ≢ full_frame
line_never line is = omega (arith, status-422 Plain (line ++ 10 ∷ []), status-refusal SessionsFull, ap status_in is)

upload_never_full : (table : _) (uploads : ℕ) (read : Result Sections TextError) → (by_text table uploads read).frame ≢ full_frame
upload_never_full table uploads (Err e) =
    λ is. omega (arith, status-422 Plain (text_line e ++ 10 ∷ []), status-refusal SessionsFull, ap status_in is)
upload_never_full table uploads (Ok sections) = by_found _
  where
    by_found : (found : _) → (by_check uploads sections found).frame ≢ full_frame
    by_found (Some e) = line_never _
    by_found None = by_room uploads sections

row_never_full : (service : Service) (stored : List Stored) (bytes : List ℕ) (ended : Bool) (frame : List ℕ) (added : List Stored) →
    frame ≡ full_frame → IsRowOf service stored bytes ended frame added → ⊥
row_never_full service stored bytes ended frame added is (rows.refused {r} verdict) =
    subst NotFull (sym verdict.is) (verdict_never verdict.head bytes ended)
    (sym (status-refusal r) ∙ ap status_in is ∙ status-refusal SessionsFull)
row_never_full service stored bytes ended frame added is (rows.upload {span} verdict) =
    upload_never_full service.world.table (length stored - service.given) (profile_of (part bytes span)) is
row_never_full service stored bytes ended frame added is (rows.query {aim} {span} verdict answers) =
    query_never service stored aim (part bytes span) frame answers (ap status_in is ∙ status-refusal SessionsFull)

-- where there is room, not as many are held as may be
room_never_full : (state : State) (turned : Bool) → HasRoom state turned → IsFull state turned → ⊥
room_never_full state turned room full = omega (arith, Counts-same state turned room.0 full.0 room.1 full.1, room.2, full.2)

-- a connection that met room for a session when it opened isn't told that sessions are full
pub no_full_with_room : (service : Service) (meets : Meets) (id : ℕ) (acts : List Act) (frame : List ℕ) → frame ≡ full_frame →
    ((since : List Act) (state : State) → OpensIn meets id acts since state → HasRoom state false) →
    HasCause service meets id acts frame → ⊥
no_full_with_room service meets id acts frame is room (away {since} {state} opening full turned) =
    room_never_full state false (room since state opening) full
no_full_with_room service meets id acts frame is room (memory decided some) =
    omega (arith, status-refusal OutOfMemory, status-refusal SessionsFull, ap status_in is)
no_full_with_room service meets id acts frame is room (row {state} {bytes} {ended} {added} decided row_is) =
    row_never_full service state.stored bytes ended frame added is row_is
