-- A request that is answered in turns: its waypoints are moved to nodes first, then its search begins, then the text of
-- what that found. This project's own rule.
use Rattle.std.specs.Prelude.{◌≡◌, ℕ, suc, ◌+◌, ◌/◌, ◌≤◌, List, Result, IfOk, MatchResult, Vec, length}
use Rattle.std.specs.declared.alloc.Global.{Global}
use Rattle.std.specs.declared.rc.Rc.{Rc}
use Rattle.profile_text.specs.Tree.{Sections}
use Rattle.tasks.specs.Chains.{AreOver, answers_in, left_in}
use Rattle.tasks.specs.Steps.{Steps}
use Rattle.tasks.specs.declared.chain.Chain.{Chain}
use Rattle.tasks.specs.declared.steps.Stepped.{Stepped}
use Rattle.item_list.specs.Turns.{Says}
use Rattle.item_list.specs.declared.turn.Turn.{Turn}
use Rattle.route_http.specs.Asked.{Asked}
use Rattle.route_http.specs.Seen.{asked}
use Rattle.route_http.specs.declared.asked.Request.{Request}
use Rattle.route_http.specs.declared.form.Form.{Form}
use Rattle.route_ready.specs.Worlds.{WorldValue}
use Rattle.route_ready.specs.declared.error.RouteError.{RouteError}
use Rattle.route_ready.specs.declared.error.RouteError.TheVariants.{NoMemory}
use Rattle.route_ready.specs.declared.ready.Ready.{Ready}
use Rattle.track_reply.specs.Source.{Source}
use Rattle.route_engine.specs.Jobs.{plan_of}
use Rattle.route_engine.specs.Placings.{IsPlaced, IsPlacingOn, IsPlanBy, placing_for, work_of_placing}
use Rattle.route_engine.specs.Plans.{Plan}
use Rattle.route_engine.specs.Replies.{IsReady, TellsOn, bytes_in, question_of}
use Rattle.route_engine.specs.Searches.{IsSomeones, RepliesInTime}
use Rattle.route_engine.specs.Texts.{IsBegun}
use Rattle.route_engine.specs.Told.{TellsOf}
use Rattle.route_engine.specs.declared.asking.Asking.{Asking}
use Rattle.route_engine.specs.declared.asking.AskingStage.{AskingStage}
use Rattle.route_engine.specs.declared.asking.AskingStage.TheVariants.{Searching, Writing}
use Rattle.route_engine.specs.declared.placing.Placing.{Placing}
use Rattle.route_engine.specs.declared.plan.JobPlan.{JobPlan}
use Rattle.route_engine.specs.declared.told.Told.{Told}

-- ---- A search behind the plan of its request

-- what the waypoints of a request came to may begin its search: it is the plan of the request
abbrev pub CanSearch : WorldValue → Rc Request Global → Result JobPlan RouteError → Type 0
CanSearch world request given =
    IfOk given (λ plan. IsPlanBy world plan.ready.value (asked request.value) plan)

-- so the end is the reply to the request by each profile for which its waypoints came to that
abbrev pub FollowsPlan :
    {F : Type 0} → (Finds : Plan → F → Type 0) → (Refuses : Plan → RouteError → Type 0) →
    (text : Form → Source → F → List ℕ) → WorldValue → Rc Request Global → Result JobPlan RouteError →
    Result (Vec ℕ Global) RouteError → Type 0
FollowsPlan Finds Refuses text world request given end =
    (sections : Sections) (ready : Ready) → IsReady world sections (asked request.value) ready →
    IsPlaced world ready (asked request.value) given →
    TellsOn Finds Refuses text (question_of world sections (asked request.value)) (bytes_in end)

-- what is answered in turns: the waypoints are moved, then the search goes on, then its text
abbrev pub Turned : (S W : Type 0) → Type 0
Turned S W = Chain Placing (Asking S W) (Rc Request Global)

-- with what the moving of waypoints may end
abbrev pub PlacesAs : WorldValue → Placing → Result JobPlan RouteError → Type 0
PlacesAs world p given = IsPlaced world p.ready.value (asked p.request.value) given

-- ---- How far a request is whose waypoints are moved

module _ {S W : Type 0} (IsOn : S → Type 0) (plan : S → Plan) (IsWriting : Ready → Told → W → Type 0) (world : WorldValue) where
  -- what holds of it by its stage: it is searched for by someone; or its text is written
  abbrev pub IsAskingStage : Ready → Told → AskingStage S W → Type 0
  IsAskingStage ready told (Searching search) = IsOn search × IsSomeones world ready (plan search)
  IsAskingStage ready told (Writing writing) = IsWriting ready told writing

  -- it is a request over a world
  abbrev pub IsAskingOver : Asking S W → Type 0
  IsAskingOver a = IsAskingStage a.ready.value a.told a.stage

  -- it is a request over a world
  abbrev pub IsTurnedOver : Turned S W → Type 0
  IsTurnedOver t = AreOver (IsPlacingOn world) IsAskingOver (PlacesAs world) (CanSearch world) t

-- a text ends with these bytes, or memory runs out
abbrev pub EndsText : (bytes : List ℕ) → Result (Vec ℕ Global) RouteError → Type 0
EndsText bytes end = MatchResult end (λ whole. whole.items ≡ bytes) (λ e. e ≡ NoMemory)

module _ {S W F : Type 0} (Finds : Plan → F → Type 0) (Refuses : Plan → RouteError → Type 0)
    (text : Form → Source → F → List ℕ) (plan : S → Plan) (comes_to : Ready → Told → W → List ℕ) (world : WorldValue) where
  -- with what it may end by its stage
  abbrev pub AsksFrom : Ready → Told → AskingStage S W → Result (Vec ℕ Global) RouteError → Type 0
  AsksFrom ready told (Searching search) end = RepliesInTime Finds Refuses text world ready told (plan search) end
  AsksFrom ready told (Writing writing) end = EndsText (comes_to ready told writing) end

  -- with what it may end
  abbrev pub AsksAs : Asking S W → Result (Vec ℕ Global) RouteError → Type 0
  AsksAs a end = AsksFrom a.ready.value a.told a.stage end

  -- with what it may end, from its waypoints on
  abbrev pub TurnsAs : Turned S W → Result (Vec ℕ Global) RouteError → Type 0
  TurnsAs t end = answers_in (PlacesAs world) AsksAs (FollowsPlan Finds Refuses text world) t end

  -- whatever it ends with is the reply to a request by a profile of these sections
  abbrev pub TellsTurned : Sections → Asked → Turned S W → Type 0
  TellsTurned sections asked t =
      (end : Result (Vec ℕ Global) RouteError) → TurnsAs t end →
      TellsOn Finds Refuses text (question_of world sections asked) (bytes_in end)

-- ---- How much is left

module _ {S W : Type 0} (work : S → ℕ) (left : W → ℕ) where
  -- how much may still be spent by a stage
  abbrev pub work_of_stage : AskingStage S W → ℕ
  work_of_stage (Searching search) = work search
  work_of_stage (Writing writing) = left writing

  -- how much may still be spent on a request
  abbrev pub work_of_asking : Asking S W → ℕ
  work_of_asking a = work_of_stage a.stage

  -- how many turns of a budget are left
  abbrev pub turned_left : (most_for : Asked → ℕ) → WorldValue → (budget : ℕ) → Turned S W → ℕ
  turned_left most_for world budget t =
      left_in (λ (p : Placing). work_of_placing world p / budget) (λ (a : Asking S W). work_of_asking a / budget)
      (λ (request : Rc Request Global). most_for (asked request.value) / budget) t

  -- no more turns are left than for all that may be counted, and one
  abbrev pub FewTurns : (most_for : Asked → ℕ) → WorldValue → Asked → Turned S W → Type 0
  FewTurns most_for world asked t =
      (budget : ℕ) → turned_left most_for world budget t ≤
      suc ((placing_for (length world.map.links) asked + most_for asked) / budget)

-- how many steps may still spend nothing by a stage: those of its search, and the beginning of its text
abbrev pub free_of_stage : {S W : Type 0} → (free : S → ℕ) → AskingStage S W → ℕ
free_of_stage free (Searching search) = suc (free search)
free_of_stage free (Writing writing) = 0

-- how many steps of a request may still spend nothing
abbrev pub free_of_asking : {S W : Type 0} → (free : S → ℕ) → Asking S W → ℕ
free_of_asking free a = free_of_stage free a.stage

-- ---- Its steps

-- a request with this plan begins so
pub data BeginsStage {S W : Type 0} (IsOn : S → Type 0) (plan : S → Plan) (world : WorldValue) (job_plan : JobPlan) :
    AskingStage S W → Type 0 where
  searching : {search : S} → IsOn search → plan search ≡ plan_of world job_plan →
      BeginsStage IsOn plan world job_plan (Searching search)

-- a request begins so: it is searched for by its plan
pub record BeginsAsking {S W : Type 0} (IsOn : S → Type 0) (plan : S → Plan) (world : WorldValue) (request : Asked)
    (job_plan : JobPlan) (a : Asking S W) : Type 0 where
  pub ready_is : a.ready.value ≡ job_plan.ready.value
  pub told_is : TellsOf request a.told
  pub stage_is : BeginsStage IsOn plan world job_plan a.stage

-- what was found is told by a text that begins so
pub record IsWritten {S W : Type 0} (IsWriting : Ready → Told → W → Type 0) (comes_to : Ready → Told → W → List ℕ)
    (left : W → ℕ) (most : ℕ) (bytes : List ℕ) (told : Told) (ready : Rc Ready Global) (a : Asking S W) : Type 0 where
  pub writing : W
  pub is : a ≡ record { told = told; ready = ready; stage = Writing writing }
  pub begins : IsBegun (IsWriting ready.value told) (comes_to ready.value told) left most bytes writing

-- what was found is told by a text that begins so, or by these bytes; or memory runs out
abbrev pub BeginsWriting : {S W : Type 0} → (IsWriting : Ready → Told → W → Type 0) → (comes_to : Ready → Told → W → List ℕ) →
    (left : W → ℕ) → (most : ℕ) → (bytes : List ℕ) → Told → Rc Ready Global →
    Turn (Asking S W) (Result (Vec ℕ Global) RouteError) → Type 0
BeginsWriting IsWriting comes_to left most bytes told ready begun =
    Says (IsWritten IsWriting comes_to left most bytes told ready) (EndsText bytes) begun

module _ {S W F : Type 0} (Finds : Plan → F → Type 0) (Refuses : Plan → RouteError → Type 0)
    (text : Form → Source → F → List ℕ) (IsOn : S → Type 0) (plan : S → Plan) (IsWriting : Ready → Told → W → Type 0)
    (comes_to : Ready → Told → W → List ℕ) (work : S → ℕ) (left : W → ℕ) (free : S → ℕ) (world : WorldValue) where
  -- what a step of a request comes to
  abbrev pub StepsAsking : (budget : ℕ) (before : Asking S W) → Stepped (Asking S W) (Result (Vec ℕ Global) RouteError) → Type 0
  StepsAsking budget before step =
      Steps (IsAskingOver IsOn plan IsWriting world) (AsksAs Finds Refuses text plan comes_to world)
      (work_of_asking work left) (free_of_asking free) budget before step
