-- The waypoints of a request are moved to nodes, step after step.
use Rattle.route_ready.specs.Fits.{FitsMap}
use Rattle.std.proofs.Common.{◌≡◌, ◌⊎◌, inl, ℕ, ◌+◌, ◌-◌, ◌*◌, ◌<◌, ◌≤◌, min, true, false, Bool, List, [], ◌∷◌, ◌++◌, length, nat_eq, Some, None, Result, Ok, Err, IfOk, IfErr, MatchResult, Vec, refl, sym, ap, ◌∙◌, subst, arith}
use Rattle.std.proofs.Math.Nat.{le-max_left, le-max_right, min-le_left, min-le_right}
use Rattle.std.proofs.lemmas.List.{length_push}
use Rattle.std.specs.declared.alloc.Global.{Global}
use Rattle.nogo_areas.specs.Cuts.{cut_of}
use Rattle.nogo_areas.specs.Cuttings.{IsCutting, judged}
use Rattle.nogo_areas.specs.declared.circle.Circle.{Circle}
use Rattle.nogo_areas.specs.declared.cutting.Cutting.{Cutting as TheCutting}
use Rattle.route_http.specs.Numbers.{AreBelow}
use Rattle.route_http.specs.Seen.{asked, circles_seen}
use Rattle.route_http.specs.declared.asked.Request.{Request}
use Rattle.route_ready.specs.Worlds.{WorldValue}
use Rattle.route_ready.specs.declared.error.RouteError.{RouteError}
use Rattle.route_ready.specs.declared.error.RouteError.TheVariants.{NoMemory, NotMapped}
use Rattle.route_ready.specs.declared.ready.Ready.{Ready}
use Rattle.tasks.specs.Steps.{Steps}
use Rattle.tasks.specs.declared.steps.Stepped.{Stepped}
use Rattle.way_class.specs.Links.{links_of}
use Rattle.route_engine.specs.Jobs.{IsWithin, setting_by}
use Rattle.route_engine.specs.Placings.{AreMoved, IsPlaced, IsPlacingOn, IsPlacingStage, IsPlanBy, IsPlanWith, PlacesOn, StepsTo, cutting_for, free_stages, moving, open_map_for, placing_left, work_of_placing}
use Rattle.route_engine.specs.Askings.{PlacesAs}
use Rattle.route_engine.specs.Numbers.{chosen, columns_of, rows_of}
use Rattle.route_engine.specs.Settings.{cut_links}
use Rattle.route_engine.specs.Waypoints.{AreFirstNodes, AreNodes, IsMovedOn, RefusesWaypoint, waypoint_at}
use Rattle.route_engine.specs.declared.placing.Placing.{Placing}
use Rattle.route_engine.specs.declared.placing_stage.PlacingStage.{PlacingStage}
use Rattle.route_engine.specs.declared.placing_stage.PlacingStage.TheVariants as stages
use Rattle.route_engine.specs.declared.placing_stage.PlacingStep.{PlacingStep}
use Rattle.route_engine.specs.declared.plan.JobPlan.{JobPlan}
use Rattle.route_engine.proofs.NumberLemmas.{chosen-below}
use Rattle.route_engine.proofs.SettingLemmas.{cut-none, cut-seen, nodes-in}
use Rattle.route_engine.proofs.WaypointLemmas.{nodes-more}

-- where there are circles each link counts
pub cutting-some : (links : ℕ) (circles : List Circle) → false ≡ nat_eq (length circles) 0 →
    cutting_for links (circles_seen circles) ≡ links
cutting-some links [] some = absurd (cc)
cutting-some links (circle ∷ circles) some = refl

module _ (world : WorldValue) (ready : Ready) (request : Request) where
  -- no waypoint is moved yet
  pub none-moved : (cut : List Bool) → cut ≡ cut_links world.map (asked request).circles →
      AreMoved world ready (asked request) cut []
  none-moved cut is = record {
    cut_is = is;
    nodes_are = record { count = refl; each = λ k below. absurd (omega (arith, below)) };
  }

  -- where there are no circles that is so at once
  pub none-cut : true ≡ nat_eq (length request.circles) 0 → AreMoved world ready (asked request) [] []
  none-cut none = none-moved [] (cut-none world.map request.circles none)

  -- else behind the last link
  pub all-cut : (cut : List Bool) → false ≡ nat_eq (length request.circles) 0 → cut ≡ cut_of world.map request.circles →
      AreMoved world ready (asked request) cut []
  all-cut cut some is = none-moved cut (is ∙ cut-seen world.map request.circles some)

  -- one waypoint more is moved
  pub one-moved : (cut : List Bool) (nodes new : List ℕ) (node : ℕ) → AreMoved world ready (asked request) cut nodes →
      IsMovedOn (open_map_for world ready (asked request)) (waypoint_at (asked request).waypoints (length nodes)) (Some node) →
      new ≡ nodes ++ node ∷ [] → AreMoved world ready (asked request) cut new
  one-moved cut nodes new node are moved is =
      let long : length new ≡ length nodes + 1 = ap length is ∙ length_push nodes node in
      record {
        cut_is = are.cut_is;
        nodes_are = subst (λ n. AreFirstNodes (open_map_for world ready (asked request)) (asked request).waypoints n new) (sym long)
            (nodes-more (open_map_for world ready (asked request)) (asked request).waypoints (length nodes) nodes new node are.nodes_are
            moved is);
      }

  -- a waypoint that is moved to no node refuses the request
  pub refuses-next : (cut : List Bool) (nodes : List ℕ) (number : ℕ) → AreMoved world ready (asked request) cut nodes →
      number ≡ length nodes → length nodes < length (asked request).waypoints →
      IsMovedOn (open_map_for world ready (asked request)) (waypoint_at (asked request).waypoints (length nodes)) None →
      RefusesWaypoint (open_map_for world ready (asked request)) (asked request).waypoints (NotMapped number)
  refuses-next cut nodes number are is there nowhere = record {
    number = length nodes;
    is = ap NotMapped is;
    unmapped = record { there = there; nowhere = nowhere; nodes = nodes; before = are.nodes_are };
  }

  -- behind the last link the first waypoint is moved next
  pub cutting-ends : (budget : ℕ) (old new : TheCutting) (left spent : ℕ) (cut : Vec Bool Global) (nodes : Vec ℕ Global) →
      2 ≤ length (asked request).waypoints → 1 ≤ budget → false ≡ nat_eq (length request.circles) 0 →
      IsCutting world.map request.circles new → judged new ≡ judged old + spent → judged old ≤ length world.map.links →
      left ≡ length world.map.links - judged old → spent ≡ min left budget → left ≤ spent →
      (IsCutting world.map request.circles new → judged new ≡ length world.map.links → cut.items ≡ cut_of world.map request.circles) →
      nodes.items ≡ [] →
      PlacesOn world ready request budget (stages.Cutting old) (record { spent = spent; stage = stages.Moving cut nodes })
  cutting-ends budget old new left spent cut nodes two some circles over more within left_is spent_is all cut_is nodes_is =
      let none : length nodes.items ≡ 0 = ap length nodes_is in
      let fits : spent ≤ budget = omega (arith, spent_is, min-le_right left budget) in
      let few : spent ≤ left = omega (arith, spent_is, min-le_left left budget) in
      let done : judged new ≡ length world.map.links = omega (arith, more, within, left_is, all, few) in
      record {
        stage = (
          subst (AreMoved world ready (asked request) cut.items) (sym nodes_is) (all-cut cut.items circles (cut_is over done)),
          omega (arith, none, two),
        );
        fits = fits;
        less = omega (arith, none, few, left_is);
        fair = omega (arith, none, all, left_is, le-max_left spent moving);
        nearer = omega (arith, fits);
      }

  -- behind a waypoint comes the next stage
  pub moving-on : (budget spent : ℕ) (cut : Vec Bool Global) (nodes new : List ℕ) (old : Vec ℕ Global) (node : ℕ) (next : PlacingStage) →
      1 ≤ budget → spent ≡ min 500 budget → old.items ≡ nodes → AreMoved world ready (asked request) cut.items nodes →
      length nodes < length (asked request).waypoints →
      IsMovedOn (open_map_for world ready (asked request)) (waypoint_at (asked request).waypoints (length nodes)) (Some node) →
      new ≡ nodes ++ node ∷ [] →
      (AreMoved world ready (asked request) cut.items new → IsPlacingStage world ready request next) →
      placing_left world request next ≡ (length (asked request).waypoints - length new) * moving → free_stages next ≡ 0 →
      PlacesOn world ready request budget (stages.Moving cut old) (record { spent = spent; stage = next })
  moving-on budget spent cut nodes new old node next some spent_is old_is are there moved is stage left free =
      let long : length new ≡ length nodes + 1 = ap length is ∙ length_push nodes node in
      let same : length old.items ≡ length nodes = ap length old_is in
      let fits : spent ≤ budget = omega (arith, spent_is, min-le_right 500 budget) in
      let few : spent ≤ 500 = omega (arith, spent_is, min-le_left 500 budget) in
      record {
        stage = stage (one-moved cut.items nodes new node are moved is);
        fits = fits;
        less = omega (arith, left, long, same, few, there);
        fair = omega (arith, left, long, same, there, le-max_right spent moving);
        nearer = omega (arith, free, fits, some, at-least-one spent budget some spent_is);
      }
    where
      at-least-one : (spent budget : ℕ) → 1 ≤ budget → spent ≡ min 500 budget → 1 ≤ spent
      at-least-one spent budget some is = grind (arith, some, is)

  -- the plan with the nodes of all waypoints is that of the request
  pub planned-by : (plan : JobPlan) (cut : List Bool) (nodes : List ℕ) →
      FitsMap world.map ready → IsWithin (asked request) →
      AreMoved world ready (asked request) cut nodes → length nodes ≡ length (asked request).waypoints →
      IsPlanWith ready request cut nodes plan → IsPlanBy world ready (asked request) plan
  planned-by plan cut nodes fits within are all is =
      let places = (asked request).waypoints in
      let moved : AreNodes (open_map_for world ready (asked request)) places plan.nodes =
      subst (AreNodes (open_map_for world ready (asked request)) places) (sym is.nodes_are)
      (subst (λ n. AreFirstNodes (open_map_for world ready (asked request)) places n nodes) all are.nodes_are) in
      let same : length plan.nodes ≡ length places = moved.count in
      let rows : plan.rows ≡ rows_of (asked request) = is.rows ∙ ap (chosen request.sources) all in
      let columns : plan.columns ≡ columns_of (asked request) = is.columns ∙ ap (chosen request.destinations) all in
      record {
        by = is.ready_is;
        on = record {
          fits = subst (λ (r : Ready). FitsMap world.map r) (sym is.ready_is) fits;
          nodes_in = nodes-in (open_map_for world ready (asked request)) world.map places plan.nodes refl moved;
          some = omega (arith, same, within.some);
          few = omega (arith, same, within.few);
          asked = omega (arith, is.alternative, within.alternative);
          small = omega (arith, is.limit, within.labels);
          rows = subst (λ n. AreBelow n plan.rows) (sym same)
              (subst (AreBelow (length places)) (sym rows) (chosen-below request.sources (length places) within.few within.sources));
          columns = subst (λ n. AreBelow n plan.columns) (sym same)
              (subst (AreBelow (length places)) (sym columns) (chosen-below request.destinations (length places) within.few within.destinations));
        };
        planned = record {
          over = ap (λ (r : Ready). setting_by world r plan.cut.items) is.ready_is ∙ ap (setting_by world ready) (is.cut_is ∙ are.cut_is);
          nodes = moved;
          alternative = is.alternative;
          limit = is.limit;
          runs = is.runs;
          cost = is.cost;
          rows = rows;
          columns = columns;
        };
      }

  -- so it is where memory is enough for it
  pub planned : (given : Result JobPlan RouteError) (cut : List Bool) (nodes : List ℕ) →
      FitsMap world.map ready → IsWithin (asked request) →
      AreMoved world ready (asked request) cut nodes → length nodes ≡ length (asked request).waypoints →
      MatchResult given (IsPlanWith ready request cut nodes) (λ e. e ≡ NoMemory) → IsPlaced world ready (asked request) given
  planned (Ok plan) cut nodes fits within are all is = planned-by plan cut nodes fits within are all is
  planned (Err e) cut nodes fits within are all is = inl is

-- what only memory stops may be refused by a waypoint besides
pub wants-memory : (next : Result PlacingStep RouteError) (Why : RouteError → Type 0) → IfErr next (λ e. e ≡ NoMemory) →
    IfErr next (λ e. (e ≡ NoMemory) ⊎ Why e)
wants-memory (Ok step) Why cause = _
wants-memory (Err e) Why cause = inl cause

-- a step of what is done next is a step of the whole
pub steps-on : (world : WorldValue) (budget : ℕ) (before : Placing) (ready : Ready) (request : Request)
    (next : Result PlacingStep RouteError) (step : Stepped Placing (Result JobPlan RouteError)) →
    ready ≡ before.ready.value → request ≡ before.request.value → IsPlacingOn world before →
    IfOk next (PlacesOn world ready request budget before.stage) →
    IfErr next (λ e. (e ≡ NoMemory) ⊎ RefusesWaypoint (open_map_for world ready (asked request)) (asked request).waypoints e) →
    StepsTo before.ready before.request next step →
    Steps (IsPlacingOn world) (PlacesAs world) (work_of_placing world) (λ p. free_stages p.stage) budget before step
steps-on world budget before ready request (Ok next) step same_ready same_request over on cause is =
    let places : PlacesOn world before.ready.value before.request.value budget before.stage next =
    subst (λ r. PlacesOn world r before.request.value budget before.stage next) same_ready
    (subst (λ q. PlacesOn world ready q budget before.stage next) same_request on) in
    subst (Steps (IsPlacingOn world) (PlacesAs world) (work_of_placing world) (λ p. free_stages p.stage) budget before) (sym is) (record {
      fits = places.fits;
      turn = record {
        over = record { fits = over.fits; within = over.within; stage = places.stage };
        same = λ answer same. same;
        less = places.less;
        nearer = places.nearer;
      };
    })
steps-on world budget before ready request (Err e) step same_ready same_request over on cause is =
    subst (Steps (IsPlacingOn world) (PlacesAs world) (work_of_placing world) (λ p. free_stages p.stage) budget before) (sym is) (record {
      fits = omega arith;
      turn = subst (λ r. (e ≡ NoMemory) ⊎ RefusesWaypoint (open_map_for world r (asked before.request.value)) (asked before.request.value).waypoints e)
          same_ready
          (subst (λ q. (e ≡ NoMemory) ⊎ RefusesWaypoint (open_map_for world ready (asked q)) (asked q).waypoints e) same_request cause);
    })
