-- A request whose waypoints are moved first, then its search, then its text.
use Rattle.std.proofs.Common.{◌≡◌, inl, ℕ, zero, suc, ◌+◌, ◌-◌, ◌/◌, ◌≤◌, List, Result, Ok, Err, Vec, length, sym, ap, subst, arith}
use Rattle.std.proofs.Math.Nat.{add-mul, div-mul-le_self, div-zero}
use Rattle.std.proofs.lemmas.Nat.{le-div}
use Rattle.std.specs.declared.alloc.Global.{Global}
use Rattle.std.specs.declared.rc.Rc.{Rc}
use Rattle.profile_text.specs.Tree.{Sections}
use Rattle.item_list.specs.Turns.{Says}
use Rattle.item_list.specs.declared.turn.Turn.{Turn}
use Rattle.item_list.specs.declared.turn.Turn.TheVariants.{More, Done}
use Rattle.tasks.specs.Steps.{StepsOn}
use Rattle.tasks.specs.declared.chain.Chain.TheVariants.{First}
use Rattle.route_http.specs.Asked.{Asked}
use Rattle.route_http.specs.declared.form.Form.{Form}
use Rattle.route_http.specs.Seen.{asked}
use Rattle.route_http.specs.declared.asked.Request.{Request}
use Rattle.route_ready.specs.Worlds.{WorldValue}
use Rattle.route_ready.specs.declared.error.RouteError.{RouteError}
use Rattle.route_ready.specs.declared.ready.Ready.{Ready}
use Rattle.route_engine.specs.Askings.{AsksAs, AsksFrom, BeginsAsking, BeginsStage, BeginsWriting, EndsText, FewTurns, IsAskingOver, IsAskingStage, free_of_asking, searching, work_of_asking, work_of_stage}
use Rattle.route_engine.specs.Jobs.{IsPlanFor, plan_of, setting_of}
use Rattle.route_engine.specs.Placings.{IsPlanBy, placing_for, work_of_placing}
use Rattle.route_engine.specs.Plans.{Plan}
use Rattle.route_engine.specs.Replies.{IsReady, TellsOn, bytes_in, question_of}
use Rattle.route_engine.specs.Searches.{IsSomeones, IsTheirs, RepliesInTime}
use Rattle.route_engine.specs.Told.{TellsOf, source_by}
use Rattle.route_engine.specs.declared.asking.Asking.{Asking}
use Rattle.route_engine.specs.declared.asking.AskingStage.{AskingStage}
use Rattle.route_engine.specs.declared.asking.AskingStage.TheVariants.{Searching, Writing}
use Rattle.route_engine.specs.declared.placing.Placing.{Placing}
use Rattle.route_engine.specs.declared.plan.JobPlan.{JobPlan}
use Rattle.route_engine.specs.declared.told.Told.{Told}
use Rattle.track_reply.specs.Source.{Source}
use Rattle.route_engine.proofs.SearchLemmas.{div-mono, found-told, refused-told, someones-made, theirs-made}

-- parts of two numbers are no more than those of both together
div-both : (a b k : ℕ) → a / k + b / k ≤ (a + b) / k
div-both a b zero = omega (arith, div-zero a, div-zero b, div-zero (a + b))
div-both a b (suc k) =
    le-div (a / suc k + b / suc k) (a + b) (suc k) (omega arith)
    (omega (arith, add-mul (a / suc k) (b / suc k) (suc k), div-mul-le_self a (suc k), div-mul-le_self b (suc k)))

module _ (world : WorldValue) (asked_for : Asked) (plan : JobPlan) (copy : Ready) (found : Plan)
    (is : IsPlanBy world plan.ready.value asked_for plan) (same : copy ≡ plan.ready.value) (finds : found ≡ plan_of world plan) where
  -- a search for a plan is for that of the request
  pub planned-for : IsPlanFor (setting_of world plan.ready.value asked_for.circles) asked_for found
  planned-for = subst (IsPlanFor (setting_of world plan.ready.value asked_for.circles) asked_for) (sym finds) is.planned

  -- it is someone's
  pub someones-of : IsSomeones world copy found
  someones-of = someones-made world plan.ready.value copy asked_for found same is.on.fits planned-for

  -- and that of each request for which the profile is ready
  pub theirs-of : (sections : Sections) (told : Told) (ready : Ready) → plan.ready.value ≡ ready →
      IsReady world sections asked_for ready → TellsOf asked_for told → IsTheirs world sections asked_for copy told found
  theirs-of sections told ready by is_ready tells =
      theirs-made world sections plan.ready.value copy asked_for told found same
      (subst (IsReady world sections asked_for) (sym by) is_ready) planned-for tells

-- no more turns are left at the beginning than are allowed
pub few-turned : {S W : Type 0} (work : S → ℕ) (left : W → ℕ) (most_for : Asked → ℕ) (world : WorldValue) (request : Request) (p : Placing)
    (kept : Rc Request Global) → kept.value ≡ request → work_of_placing world p ≤ placing_for (length world.map.links) (asked request) →
    FewTurns work left most_for world (asked request) (First p kept)
few-turned {S} {W} work left most_for world request p kept same few = λ budget.
    let most = most_for (asked request) in
    let place = placing_for (length world.map.links) (asked request) in
    let kept_is : most_for (asked kept.value) / budget ≡ most / budget = ap (λ (q : Request). most_for (asked q) / budget) same in
    omega (arith, kept_is, div-mono (work_of_placing world p) place budget few, div-both place most budget)

-- ---- The beginning of a request whose waypoints are moved

module _ {S W F : Type 0} (Finds : Plan → F → Type 0) (Refuses : Plan → RouteError → Type 0) (text : Form → Source → F → List ℕ)
    (IsOn : S → Type 0) (plan : S → Plan) (IsWriting : Ready → Told → W → Type 0) (comes_to : Ready → Told → W → List ℕ)
    (work : S → ℕ) (left : W → ℕ) (world : WorldValue) (request : Asked) (job_plan : JobPlan)
    (can : IsPlanBy world job_plan.ready.value request job_plan) (a : Asking S W) (is : BeginsAsking IsOn plan world request job_plan a) where
  -- it is over the world
  pub begun-over : IsAskingOver IsOn plan IsWriting world a
  begun-over = go a.stage is.stage_is
    where
      go : (stage : AskingStage S W) → BeginsStage IsOn plan world job_plan stage →
          IsAskingStage IsOn plan IsWriting world a.ready.value a.told stage
      go (Searching next) (searching on same) =
          (on, someones-of world request job_plan a.ready.value (plan next) can is.ready_is same)
      go (Writing writing) begins = elim begins [ ]

  -- whatever it ends with follows
  pub begun-follows : (end : Result (Vec ℕ Global) RouteError) → AsksAs Finds Refuses text plan comes_to world a end → (sections : Sections) →
      (ready : Ready) → IsReady world sections request ready → job_plan.ready.value ≡ ready →
      TellsOn Finds Refuses text (question_of world sections request) (bytes_in end)
  begun-follows end asks sections ready is_ready by = go a.stage is.stage_is asks
    where
      go : (stage : AskingStage S W) → BeginsStage IsOn plan world job_plan stage →
          AsksFrom Finds Refuses text plan comes_to world a.ready.value a.told stage end →
          TellsOn Finds Refuses text (question_of world sections request) (bytes_in end)
      go (Searching next) (searching on same) replies =
          replies sections request
          (theirs-of world request job_plan a.ready.value (plan next) can is.ready_is same sections a.told ready by is_ready is.told_is)
      go (Writing writing) begins ends = elim begins [ ]

  -- and no more is left than may be spent on the request
  pub begun-few : (most : ℕ) → ((search : S) → IsPlanFor (setting_of world job_plan.ready.value request.circles) request (plan search) →
      work search ≤ most) → work_of_asking work left a ≤ most
  begun-few most planned = go a.stage is.stage_is
    where
      go : (stage : AskingStage S W) → BeginsStage IsOn plan world job_plan stage → work_of_stage work left stage ≤ most
      go (Searching next) (searching on same) =
          planned next (planned-for world request job_plan a.ready.value (plan next) can is.ready_is same)
      go (Writing writing) begins = elim begins [ ]

-- ---- The text of what was found

module _ {S W F : Type 0} (Finds : Plan → F → Type 0) (Refuses : Plan → RouteError → Type 0) (text : Form → Source → F → List ℕ)
    (IsOn : S → Type 0) (plan : S → Plan) (IsWriting : Ready → Told → W → Type 0) (comes_to : Ready → Told → W → List ℕ)
    (work : S → ℕ) (left : W → ℕ) (free : S → ℕ) (world : WorldValue) (told : Told) (ready : Rc Ready Global) (search : S) (found : F)
    (finds : Finds (plan search) found) where
  -- what it comes to
  abbrev bytes_of : List ℕ
  bytes_of = text told.form (source_by world ready.value told) found

  -- its end is the reply
  text-told : (end : Result (Vec ℕ Global) RouteError) → EndsText bytes_of end →
      RepliesInTime Finds Refuses text world ready.value told (plan search) end
  text-told (Ok whole) are = found-told Finds Refuses text world ready.value told (plan search) found whole finds are
  text-told (Err e) are = refused-told Finds Refuses text world ready.value told (plan search) e (inl are)

  -- it begins, or is the reply
  pub text-begins : (budget spent most : ℕ) → most ≤ work search - spent → (turn : Turn (Asking S W) (Result (Vec ℕ Global) RouteError)) →
      BeginsWriting IsWriting comes_to left most bytes_of told ready turn →
      Says (StepsOn (IsAskingOver IsOn plan IsWriting world) (AsksAs Finds Refuses text plan comes_to world) (work_of_asking work left)
      (free_of_asking free) budget spent (record { told = told; ready = ready; stage = Searching search }))
      (AsksAs Finds Refuses text plan comes_to world (record { told = told; ready = ready; stage = Searching search })) turn
  text-begins budget spent most enough (Done end) is = text-told end is
  text-begins budget spent most enough (More a) is =
      let begins = is.begins in
      subst (StepsOn (IsAskingOver IsOn plan IsWriting world) (AsksAs Finds Refuses text plan comes_to world) (work_of_asking work left)
      (free_of_asking free) budget spent (record { told = told; ready = ready; stage = Searching search })) (sym is.is) (record {
        over = begins.on;
        same = λ end ends. text-told end (subst (λ (b : List ℕ). EndsText b end) begins.comes ends);
        less = omega (arith, begins.some, begins.few, enough);
        nearer = omega arith;
      })
