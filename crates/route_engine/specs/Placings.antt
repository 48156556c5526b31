-- The waypoints of a request are moved to nodes in steps, behind the cuts of its circles. This project's own rule.
use Rattle.std.specs.Prelude.{◌≡◌, ◌⊎◌, ℕ, ◌+◌, ◌-◌, ◌*◌, ◌<◌, ◌≤◌, max, Bool, false, List, [], ◌∷◌, nat_eq, Result, Ok, Err, MatchResult, length}
use Rattle.std.specs.declared.alloc.Global.{Global}
use Rattle.std.specs.declared.rc.Rc.{Rc}
use Rattle.geo_int.specs.Place.{Place}
use Rattle.item_list.specs.declared.turn.Turn.TheVariants.{More, Done}
use Rattle.nogo_areas.specs.Cuttings.{IsCutting, judged}
use Rattle.route_http.specs.Asked.{Asked}
use Rattle.route_http.specs.Seen.{asked}
use Rattle.route_http.specs.declared.asked.Request.{Request}
use Rattle.route_ready.specs.Fits.{FitsMap}
use Rattle.route_ready.specs.Worlds.{WorldValue}
use Rattle.route_ready.specs.declared.error.RouteError.{RouteError}
use Rattle.route_ready.specs.declared.error.RouteError.TheVariants.{NoMemory}
use Rattle.route_ready.specs.declared.ready.Ready.{Ready}
use Rattle.tasks.specs.declared.steps.Stepped.{Stepped}
use Rattle.way_class.specs.Links.{links_of}
use Rattle.route_engine.specs.Jobs.{IsPlanFor, IsPlanOn, IsWithin, plan_of, setting_of}
use Rattle.route_engine.specs.Numbers.{chosen}
use Rattle.route_engine.specs.Settings.{cut_links, open_map_of}
use Rattle.route_engine.specs.Waypoints.{AreFirstNodes, OpenMap, RefusesWaypoint}
use Rattle.route_engine.specs.declared.placing.Placing.{Placing}
use Rattle.route_engine.specs.declared.placing_stage.PlacingStage.{PlacingStage}
use Rattle.route_engine.specs.declared.placing_stage.PlacingStage.TheVariants.{Cutting, Moving, Placed}
use Rattle.route_engine.specs.declared.placing_stage.PlacingStep.{PlacingStep}
use Rattle.route_engine.specs.declared.plan.JobPlan.{JobPlan}

-- ---- What is counted

-- what a waypoint counts as
abbrev pub moving : ℕ
moving = 500

-- what the links of a map count as: one each where there are circles, else nothing
abbrev pub cutting_for : (links : ℕ) → List (Place × ℕ) → ℕ
cutting_for links [] = 0
cutting_for links (circle ∷ circles) = links

-- the most that is counted until the waypoints of a request have their nodes
abbrev pub placing_for : (links : ℕ) → Asked → ℕ
placing_for links asked = cutting_for links asked.circles + length asked.waypoints * moving

-- ---- How far it is

-- what the waypoints of a request are moved on
abbrev pub open_map_for : WorldValue → Ready → Asked → OpenMap
open_map_for world ready asked = open_map_of (setting_of world ready asked.circles)

-- the circles of a request cut these links, and these are the nodes of its first waypoints
pub record AreMoved (world : WorldValue) (ready : Ready) (asked : Asked) (cut : List Bool) (nodes : List ℕ) :
    Type 0 where
  pub cut_is : cut ≡ cut_links world.map asked.circles
  pub nodes_are : AreFirstNodes (open_map_for world ready asked) asked.waypoints (length nodes) nodes

-- what holds by how far it is
abbrev pub IsPlacingStage : WorldValue → Ready → Request → PlacingStage → Type 0
IsPlacingStage world ready request (Cutting cutting) =
    IsCutting world.map request.circles cutting × (false ≡ nat_eq (length request.circles) 0)
IsPlacingStage world ready request (Moving cut nodes) =
    AreMoved world ready (asked request) cut.items nodes.items × (length nodes.items < length (asked request).waypoints)
IsPlacingStage world ready request (Placed cut nodes) =
    AreMoved world ready (asked request) cut.items nodes.items × (length nodes.items ≡ length (asked request).waypoints)

-- how much may still be counted
abbrev pub placing_left : WorldValue → Request → PlacingStage → ℕ
placing_left world request (Cutting cutting) =
    (length world.map.links - judged cutting) + length (asked request).waypoints * moving
placing_left world request (Moving cut nodes) = (length (asked request).waypoints - length nodes.items) * moving
placing_left world request (Placed cut nodes) = 0

-- how many steps may still count nothing
abbrev pub free_stages : PlacingStage → ℕ
free_stages (Cutting cutting) = 1
free_stages (Moving cut nodes) = 0
free_stages (Placed cut nodes) = 0

-- it goes on by a step that spends no more than its budget, and does no more than it counts, or moves one waypoint
pub record PlacesOn (world : WorldValue) (ready : Ready) (request : Request) (budget : ℕ) (before : PlacingStage)
    (step : PlacingStep) : Type 0 where
  pub stage : IsPlacingStage world ready request step.stage
  pub fits : step.spent ≤ budget
  pub less : placing_left world request step.stage + step.spent ≤ placing_left world request before
  pub fair : placing_left world request before ≤ placing_left world request step.stage + max step.spent moving
  pub nearer : free_stages step.stage + (budget - step.spent) < free_stages before + budget

-- what a step comes to: it goes on from the next stage, or ends
abbrev pub StepsTo : Rc Ready Global → Rc Request Global → Result PlacingStep RouteError →
    Stepped Placing (Result JobPlan RouteError) → Type 0
StepsTo ready request (Ok next) step = step ≡ record {
  spent = next.spent;
  turn = More (record { ready = ready; request = request; stage = next.stage });
}
StepsTo ready request (Err e) step = step ≡ record { spent = 0; turn = Done (Err e) }

-- it is work over a world
pub record IsPlacingOn (world : WorldValue) (p : Placing) : Type 0 where
  pub fits : FitsMap world.map p.ready.value
  pub within : IsWithin (asked p.request.value)
  pub stage : IsPlacingStage world p.ready.value p.request.value p.stage

-- how much may still be counted of it
abbrev pub work_of_placing : WorldValue → Placing → ℕ
work_of_placing world p = placing_left world p.request.value p.stage

-- ---- What it comes to

-- this is what a request is to find, by a profile that is ready, these cut links and these nodes
pub record IsPlanWith (ready : Ready) (request : Request) (cut : List Bool) (nodes : List ℕ) (plan : JobPlan) :
    Type 0 where
  pub ready_is : plan.ready.value ≡ ready
  pub cut_is : plan.cut.items ≡ cut
  pub nodes_are : plan.nodes ≡ nodes
  pub limit : plan.limit ≡ request.labels
  pub alternative : plan.alternative ≡ request.alternative
  pub runs : plan.runs ≡ request.runs
  pub cost : plan.cost ≡ request.cost
  pub rows : plan.rows ≡ chosen request.sources (length nodes)
  pub columns : plan.columns ≡ chosen request.destinations (length nodes)

-- this is the plan of a request over a world, by a profile that is ready
pub record IsPlanBy (world : WorldValue) (ready : Ready) (asked : Asked) (plan : JobPlan) : Type 0 where
  pub by : plan.ready.value ≡ ready
  pub on : IsPlanOn world plan
  pub planned : IsPlanFor (setting_of world ready asked.circles) asked (plan_of world plan)

-- the waypoints have come to the plan of the request; or the first that is moved to no node refuses it; or memory
-- ran out
abbrev pub IsPlaced : WorldValue → Ready → Asked → Result JobPlan RouteError → Type 0
IsPlaced world ready asked given =
    MatchResult given (IsPlanBy world ready asked)
    (λ e. (e ≡ NoMemory) ⊎ RefusesWaypoint (open_map_for world ready asked) asked.waypoints e)
