-- What is searched for a query. This project's own rule.
use Rattle.std.specs.Prelude.{◌≡◌, ◌≢◌, ℕ, suc, ◌+◌, ◌/◌, ◌==◌, ◌≤◌, Bool, false, List, Result, Ok, Err, Vec}
use Rattle.std.specs.declared.alloc.Global.{Global}
use Rattle.profile_text.specs.Tree.{Sections}
use Rattle.route_engine.specs.Aims.{TellsTo, most_for}
use Rattle.route_engine.specs.Jobs.{IsWithin}
use Rattle.route_engine.specs.Pendings.{EndsAs, IsPendingOver, turns_of}
use Rattle.route_engine.specs.Replies.{bytes_in, question_of}
use Rattle.route_engine.specs.declared.aim.Aim.{Aim}
use Rattle.route_http.specs.Asked.{Asked}
use Rattle.route_http.specs.Frames.{frame_of}
use Rattle.route_http.specs.declared.kind.Kind.{Kind}
use Rattle.route_http.specs.Seen.{asked as asked_by}
use Rattle.route_ready.specs.Worlds.{WorldValue}
use Rattle.route_ready.specs.declared.error.RouteError.{RouteError}
use Rattle.route_ready.specs.declared.error.RouteError.TheVariants.{NoMemory}
use Rattle.session_answers.specs.Rows.{route_frame}
use Rattle.session_answers.specs.Aims.{kind_for}
use Rattle.session_answers.specs.Makings.{IsAwaited, making_turns}
use Rattle.session_answers.specs.declared.kept.KeptProfiles.{KeptProfiles}
use Rattle.session_answers.specs.declared.search.Search.{Search}
use Rattle.session_answers.specs.declared.search.Stage.{Stage}
use Rattle.session_answers.specs.declared.search.Stage.TheVariants.{Making, Searching}

-- how many labels a turn settles
abbrev pub work_quota : ℕ
work_quota = 2000

-- how many turns what is asked goes on for at most, once its profile is ready: those of the search, which begins where
-- the waypoints have their nodes, and the two in which each of these begins
abbrev pub turns_after : WorldValue → Aim → Asked → ℕ
turns_after world aim asked = suc (suc (most_for world.map aim asked / work_quota))

-- and with those in which a profile is made ready
abbrev pub turns_for : WorldValue → Aim → Asked → ℕ
turns_for world aim asked = making_turns world + turns_after world aim asked

-- ---- How far a search is

-- a request waits for the making of its profile, which is stored at a place, and has turns enough for that and for
-- its search
pub record WaitsFor (world : WorldValue) (kept : KeptProfiles) (place : ℕ) (aim : Aim) (left k : ℕ) (asked : Asked) :
    Type 0 where
  pub turns : ℕ
  pub awaited : IsAwaited world kept.makings.slots.items place asked.overrides turns k
  pub enough : turns + turns_after world aim asked ≤ left
  pub within : IsWithin asked

-- a stage is over a world, with turns enough
abbrev pub IsStageOver : (world : WorldValue) (kept : KeptProfiles) (place : ℕ) (aim : Aim) (left : ℕ) → Stage → Type 0
IsStageOver world kept place aim left (Making k request) = WaitsFor world kept place aim left k (asked_by request)
IsStageOver world kept place aim left (Searching pending) =
    IsPendingOver world pending × (turns_of world work_quota pending ≤ left)

-- so it goes on, with a turn less
abbrev pub GoesOnWith : (world : WorldValue) (kept : KeptProfiles) (place : ℕ) (aim : Aim) (left : ℕ) → Stage → Type 0
GoesOnWith world kept place aim left stage = (later : ℕ) × (left ≡ suc later) × IsStageOver world kept place aim later stage

-- this end answers a request, over a world by a profile of these sections
abbrev pub EndsFor : (world : WorldValue) (sections : Sections) (aim : Aim) (asked : Asked) →
    Result (Vec ℕ Global) RouteError → Type 0
EndsFor world sections aim asked end = TellsTo aim (question_of world sections asked) (bytes_in end)

-- a frame tells an end, by a profile of these sections and in the kind of a reply; want of memory is told by none
abbrev pub TellsEnd : (sections : Sections) (kind : Kind) → Result (Vec ℕ Global) RouteError → List ℕ → Type 0
TellsEnd sections kind (Ok bytes) frame = frame ≡ frame_of 200 kind bytes.items
TellsEnd sections kind (Err e) frame = (e ≢ NoMemory) × (frame ≡ route_frame sections e)

-- whatever a stage ends with answers the request
abbrev pub IsStageFor : (world : WorldValue) (sections : Sections) (aim : Aim) (asked : Asked) → Stage → Type 0
IsStageFor world sections aim asked (Making k request) = asked_by request ≡ asked
IsStageFor world sections aim asked (Searching pending) =
    (end : Result (Vec ℕ Global) RouteError) → EndsAs world pending end → EndsFor world sections aim asked end

-- ---- A search

-- it is over a world, with turns enough
abbrev pub IsOver : WorldValue → KeptProfiles → Search → Type 0
IsOver world kept p = IsStageOver world kept p.place p.aim p.left p.stage

-- it is that for a request, by what that is asked for
pub record IsSearchFor (world : WorldValue) (sections : Sections) (kept : KeptProfiles) (aim : Aim) (asked : Asked)
    (p : Search) : Type 0 where
  pub aim_is : p.aim ≡ aim
  pub kind : p.kind ≡ kind_for aim asked.form
  pub over : IsOver world kept p
  pub is : IsStageFor world sections aim asked p.stage

-- whether it waits for the making at a place
abbrev pub stage_waits : Stage → ℕ → Bool
stage_waits (Making place request) k = place == k
stage_waits (Searching pending) k = false

abbrev pub waits_for : Search → ℕ → Bool
waits_for p k = stage_waits p.stage k
