-- Which frames are allowed for a connection. This project's own rule.
use Rattle.std.specs.Prelude.{◌≡◌, ℕ, ◌≤◌, Bool, true, false, List, [], length, take, Some}
use Rattle.hall.specs.State.{site_in, Answered, Connection, Service, State}
use Rattle.hall.specs.Steps.{full_frame, memory_frame, uploaded}
use Rattle.route_http.specs.declared.span.Span.{Span}
use Rattle.session_answers.specs.Frames.{refusal_frame}
use Rattle.session_answers.specs.Rows.{IsQueryFrame}
use Rattle.session_answers.specs.Stored.{Stored}
use Rattle.session_answers.specs.Verdicts.{IsVerdict, part}
use Rattle.route_engine.specs.declared.aim.Aim.{Aim}
use Rattle.session_answers.specs.declared.refusal.Refusal.{Refusal}
use Rattle.session_answers.specs.declared.verdict.Verdict.TheVariants.{Refused, Upload, Query}

-- the frames that answer a session by its bytes, by whether its peer ended, and by the profiles that were
-- stored when that was fixed, with the profiles that are stored by it; no other connection has a part
pub data IsRowOf (service : Service) (stored : List Stored) (bytes : List ℕ) (ended : Bool) :
    List ℕ → List Stored → Type 0 where
  refused : {r : Refusal} → IsVerdict bytes ended (Refused r) →
      IsRowOf service stored bytes ended (refusal_frame r) []
  upload :
      {span : Span} → IsVerdict bytes ended (Upload span) →
      IsRowOf service stored bytes ended (uploaded service stored (part bytes span)).frame
      (uploaded service stored (part bytes span)).added
  query :
      {aim : Aim} {span : Span} {frame : List ℕ} → IsVerdict bytes ended (Query aim span) →
      IsQueryFrame (site_in service) stored aim (part bytes span) frame → IsRowOf service stored bytes ended frame []

-- a frame is allowed for a connection: that of one that is turned away; of a session that of a refused
-- request, its row where its request was whole, or that of want of memory
pub data IsAllowed (service : Service) (stored : List Stored) (c : Connection) : List ℕ → Type 0 where
  away : c.away ≡ true → IsAllowed service stored c full_frame
  refused :
      {r : Refusal} → c.away ≡ false → IsVerdict c.bytes c.ended (Refused r) →
      IsAllowed service stored c (refusal_frame r)
  whole :
      {before : ℕ} {frame : List ℕ} {added : List Stored} → c.away ≡ false → c.before ≡ Some before →
      before ≤ length stored → IsRowOf service (take before stored) c.bytes c.ended frame added →
      IsAllowed service stored c frame
  memory : c.away ≡ false → IsAllowed service stored c memory_frame

-- each frame that a state holds is allowed for its own connection, and so many bytes of it are sent as it has
-- at most
abbrev pub AreAllowed : Service → State → Type 0
AreAllowed service s =
    (id : ℕ) (c : Connection) (frame : List ℕ) (sent : ℕ) → s.known id ≡ Some c →
    c.phase ≡ Answered frame sent →
    IsAllowed service s.stored c frame × (sent ≤ length frame)
