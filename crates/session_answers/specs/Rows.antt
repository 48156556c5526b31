-- The answers to a query at a site with stored profiles. This project's own rule.
use Rattle.std.specs.Prelude.{◌≡◌, ℕ, List, Some, None, Ok, Err}
use Rattle.profile_text.specs.Tree.{Sections}
use Rattle.route_engine.specs.Refusals.{IsEarly}
use Rattle.route_engine.specs.Replies.{question_of}
use Rattle.route_http.specs.Asked.{Asked}
use Rattle.route_http.specs.Frames.{frame_of}
use Rattle.route_http.specs.Lines.{request_line}
use Rattle.route_http.specs.declared.error.RequestError.{RequestError}
use Rattle.route_ready.specs.Lines.{route_line}
use Rattle.route_ready.specs.declared.error.RouteError.{RouteError}
use Rattle.route_engine.specs.Aims.{IsRefusalTo, IsReplyTo}
use Rattle.session_answers.specs.Aims.{kind_for}
use Rattle.session_answers.specs.Frames.{line_frame, refusal_frame}
use Rattle.session_answers.specs.Sites.{Site, request_at}
use Rattle.session_answers.specs.Stored.{Stored, find_stored}
use Rattle.route_engine.specs.declared.aim.Aim.{Aim}
use Rattle.session_answers.specs.declared.refusal.Refusal.TheVariants.{UnknownProfile}

-- a query that is asked for this is this request, by the stored profile of these sections
pub record Asks (site : Site) (stored : List Stored) (aim : Aim) (query : List ℕ) (asked : Asked) (sections : Sections)
    : Type 0 where
  pub asks : request_at site aim query ≡ Ok asked
  pub found : find_stored stored asked.profile ≡ Some sections

-- the frame of a request that has no reply
abbrev pub route_frame : Sections → RouteError → List ℕ
route_frame sections e = line_frame 422 (route_line (Some sections) e)

-- the frames that answer a query before any search: it is malformed, its profile isn't stored, its profile is
-- refused, or one of its waypoints is moved to no node
pub data IsEarlyFrame (site : Site) (stored : List Stored) (aim : Aim) (query : List ℕ) : List ℕ → Type 0 where
  malformed : {e : RequestError} → request_at site aim query ≡ Err e →
      IsEarlyFrame site stored aim query (line_frame 400 (request_line e))
  unknown :
      {asked : Asked} → request_at site aim query ≡ Ok asked → find_stored stored asked.profile ≡ None →
      IsEarlyFrame site stored aim query (refusal_frame UnknownProfile)
  early :
      {asked : Asked} {sections : Sections} {e : RouteError} → Asks site stored aim query asked sections →
      IsEarly (question_of site.world sections asked) e → IsEarlyFrame site stored aim query (route_frame sections e)

-- the frames that answer a query, by what it is asked for: these, whatever that is; its reply; or why there is
-- none
pub data IsQueryFrame (site : Site) (stored : List Stored) (aim : Aim) (query : List ℕ) :
    List ℕ → Type 0 where
  before : {frame : List ℕ} → IsEarlyFrame site stored aim query frame → IsQueryFrame site stored aim query frame
  refused :
      {asked : Asked} {sections : Sections} → Asks site stored aim query asked sections → (e : RouteError) →
      IsRefusalTo aim (question_of site.world sections asked) e →
      IsQueryFrame site stored aim query (route_frame sections e)
  told :
      {asked : Asked} {sections : Sections} → Asks site stored aim query asked sections → (bytes : List ℕ) →
      IsReplyTo aim (question_of site.world sections asked) bytes →
      IsQueryFrame site stored aim query (frame_of 200 (kind_for aim asked.form) bytes)
