-- Frames of two statuses differ.
use Rattle.std.proofs.Common.{◌≡◌, ◌≢◌, ◌==◌, ℕ, ◌+◌, ◌-◌, ◌*◌, true, false, List, [], ◌∷◌, ◌++◌, length, get_or, cond, Some, None, Result, Ok, Err, refl, sym, ◌∙◌, arith}
use Rattle.std.specs.Fmt.{digits}
use Rattle.hall.specs.State.{site_in, Service}
use Rattle.hall.specs.Steps.{uploaded}
use Rattle.profile_text.specs.Lines.{text_line}
use Rattle.profile_text.specs.Read.{profile_of}
use Rattle.profile_text.specs.Tree.{Sections}
use Rattle.profile_text.specs.declared.error.TextError.{TextError}
use Rattle.route_http.specs.Frames.{frame_of, status_line}
use Rattle.route_http.specs.Lines.{request_line}
use Rattle.route_http.specs.declared.kind.Kind.{Kind}
use Rattle.route_http.specs.declared.kind.Kind.TheVariants.{Json, Plain}
use Rattle.route_ready.specs.Lines.{route_line}
use Rattle.session_answers.specs.Frames.{refusal_frame, status_of}
use Rattle.session_answers.specs.Rows as queries
use Rattle.route_engine.specs.declared.aim.Aim.{Aim}
use Rattle.session_answers.specs.Rows.{IsEarlyFrame}
use Rattle.session_answers.specs.Stored.{Stored, Uploaded, by_check, by_text, most_uploads, refused_with, stored_after, upload_name, upload_reply}
use Rattle.session_answers.specs.declared.refusal.Refusal.{Refusal}
use Rattle.session_answers.specs.declared.refusal.Refusal.TheVariants.{HeadTooLong, BadRequest, UnknownPath, MethodNotAllowed, BodyTooLong, UploadsFull, UnknownProfile, SessionsFull, OutOfMemory}

-- the status that stands in a frame, by its three digits
abbrev pub status_in : List ℕ → ℕ
status_in frame = 100 * (get_or frame 9 0 - 48) + (10 * (get_or frame 10 0 - 48) + (get_or frame 11 0 - 48))

pub status-200 : (kind : Kind) (body : List ℕ) → status_in (frame_of 200 kind body) ≡ 200
unfolding frame_of status_line digits
status-200 kind body = refl

pub status-400 : (kind : Kind) (body : List ℕ) → status_in (frame_of 400 kind body) ≡ 400
unfolding frame_of status_line digits
status-400 kind body = refl

pub status-422 : (kind : Kind) (body : List ℕ) → status_in (frame_of 422 kind body) ≡ 422
unfolding frame_of status_line digits
status-422 kind body = refl

-- that of a refusal is its own
pub status-refusal : (r : Refusal) → status_in (refusal_frame r) ≡ status_of r
unfolding refusal_frame frame_of status_line digits
status-refusal HeadTooLong = refl
status-refusal BadRequest = refl
status-refusal UnknownPath = refl
status-refusal MethodNotAllowed = refl
status-refusal BodyTooLong = refl
status-refusal UploadsFull = refl
status-refusal UnknownProfile = refl
status-refusal SessionsFull = refl
status-refusal OutOfMemory = refl

-- no refusal is a success
refusal_fails : (r : Refusal) → status_of r ≢ 200
refusal_fails HeadTooLong is = omega arith
refusal_fails BadRequest is = omega arith
refusal_fails UnknownPath is = omega arith
refusal_fails MethodNotAllowed is = omega arith
refusal_fails BodyTooLong is = omega arith
refusal_fails UploadsFull is = omega arith
refusal_fails UnknownProfile is = omega arith
refusal_fails SessionsFull is = omega arith
refusal_fails OutOfMemory is = omega arith

pub no_success-refusal : (r : Refusal) → status_in (refusal_frame r) ≢ 200
no_success-refusal r is = refusal_fails r (sym (status-refusal r) ∙ is)

-- nor is what is answered before any search
pub no_success-early : (service : Service) (stored : List Stored) (aim : Aim) (query frame : List ℕ) →
    IsEarlyFrame (site_in service) stored aim query frame → status_in frame ≢ 200
no_success-early service stored aim query frame (queries.malformed {e} failed) is =
    omega (arith, status-400 Plain (request_line e ++ 10 ∷ []), is)
no_success-early service stored aim query frame (queries.unknown asks unknown) is = no_success-refusal UnknownProfile is
no_success-early service stored aim query frame (queries.early {asked} {sections} {e} asks early) is =
    omega (arith, status-422 Plain (route_line (Some sections) e ++ 10 ∷ []), is)

-- ---- What an upload comes to

-- it is refused in another status than that of success and stores nothing, or is accepted and stores one profile
pub data ComesTo (u : Uploaded) : Type 0 where
  refused : status_in u.frame ≢ 200 → u.added ≡ [] → ComesTo u
  accepted : {profile : Stored} → status_in u.frame ≡ 200 → u.added ≡ profile ∷ [] → ComesTo u

by_room : (uploads : ℕ) (sections : Sections) → ComesTo (stored_after uploads sections)
by_room uploads sections =
    elim (uploads == most_uploads) as (λ b. ComesTo (cond b (record { frame = refusal_frame UploadsFull; added = [] })
    (record { frame = frame_of 200 Json (upload_reply (uploads + 1)); added = (upload_name (uploads + 1), sections) ∷ [] }))) [
      | true ↦ refused (no_success-refusal UploadsFull) refl
      | false ↦ accepted (status-200 Json (upload_reply (uploads + 1))) refl
    ]

by_line : (line : List ℕ) → ComesTo (refused_with line)
by_line line = refused (λ is. omega (arith, status-422 Plain (line ++ 10 ∷ []), is)) refl

by_refusal : (uploads : ℕ) (sections : Sections) (found : _) → ComesTo (by_check uploads sections found)
by_refusal uploads sections (Some e) = by_line _
by_refusal uploads sections None = by_room uploads sections

by_reading : (table : _) (uploads : ℕ) (read : Result Sections TextError) → ComesTo (by_text table uploads read)
by_reading table uploads (Err e) = by_line (text_line e)
by_reading table uploads (Ok sections) = by_refusal uploads sections _

pub comes_to : (service : Service) (stored : List Stored) (text : List ℕ) → ComesTo (uploaded service stored text)
comes_to service stored text = by_reading service.world.table (length stored - service.given) (profile_of text)

-- what stores a profile is answered in the status of success
pub stores_with_success : (service : Service) (stored : List Stored) (text : List ℕ) (profile : Stored) →
    (uploaded service stored text).added ≡ profile ∷ [] → status_in (uploaded service stored text).frame ≡ 200
stores_with_success service stored text profile adds = by_what (comes_to service stored text)
  where
    by_what : ComesTo (uploaded service stored text) → status_in (uploaded service stored text).frame ≡ 200
    by_what (refused other none) = absurd (let clash : [] ≡ profile ∷ [] = sym none ∙ adds in cc)
    by_what (accepted is one) = is
