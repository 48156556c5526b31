-- What a job of what lies within a cost stands for, and what its steps come to. This project's own rule.
use Rattle.std.specs.Prelude.{◌≡◌, ℕ, suc, ◌+◌, ◌-◌, ◌*◌, ◌<◌, ◌≤◌, List, length, Result, Ok, Err, IsErr}
use Rattle.cost_table.specs.Costs.{IsCostWithin}
use Rattle.cost_table.specs.Reaches.{cost_in, settled_of}
use Rattle.cost_table.specs.declared.turn.ReachTurn.{ReachTurn}
use Rattle.cost_table.specs.declared.turn.ReachTurn.TheVariants as reach
use Rattle.cost_table.specs.declared.want.Want.TheVariants.{Within}
use Rattle.item_list.specs.Turns.{Says}
use Rattle.item_list.specs.declared.turn.Turn.{Turn}
use Rattle.item_list.specs.declared.turn.Turn.TheVariants.{More, Done}
use Rattle.route_engine.specs.Jobs.{IsPlanOn, plan_of}
use Rattle.route_engine.specs.Listings.{AreBelow, IsListing}
use Rattle.route_engine.specs.Nearby.{AreFirstNearby, leg_from, lists_in}
use Rattle.route_engine.specs.NearbyAnswers.{IsNearbyFor, RefusesNearby, most_for_features, most_for_list}
use Rattle.route_engine.specs.NearbyTexts.{nearby_to_write}
use Rattle.route_engine.specs.Plans.{Plan}
use Rattle.route_engine.specs.Searches.{EndsSearch, StepsSearch}
use Rattle.route_engine.specs.Sources.{IsSourceOn, quest_in}
use Rattle.route_engine.specs.Tables.{IsFromWaypoint}
use Rattle.route_engine.specs.declared.listing.Listing.{Listing}
use Rattle.route_engine.specs.declared.plan.JobPlan.{JobPlan}
use Rattle.route_engine.specs.declared.sources.Source.{Source}
use Rattle.route_engine.specs.declared.within.Nearby.{Nearby}
use Rattle.route_engine.specs.declared.within.NextList.{NextList}
use Rattle.route_engine.specs.declared.within.NextList.TheVariants.{New, Searching, Listed}
use Rattle.route_engine.specs.declared.within.WithinJob.{WithinJob}
use Rattle.route_ready.specs.Worlds.{WorldValue}
use Rattle.route_ready.specs.declared.error.RouteError.{RouteError}
use Rattle.route_ready.specs.declared.error.RouteError.TheVariants.{NoMemory}
use Rattle.tasks.specs.declared.steps.Stepped.{Stepped}

-- the plan of a job
abbrev pub nearby_plan : WorldValue → WithinJob → Plan
nearby_plan world job = plan_of world job.plan

-- this is the search from the waypoint of a number
pub record IsNextList (plan : Plan) (number : ℕ) (source : Source) : Type 0 where
  pub there : number < length plan.nodes
  pub on : IsSourceOn plan.setting.terrain source
  pub from : IsFromWaypoint plan number (quest_in plan.setting.terrain source)
  pub asks : source.reach.found.want ≡ Within plan.cost
  pub within : settled_of source.reach ≤ plan.limit

-- this lists what the search from the waypoint of a number tells, on a map of so many nodes
pub record IsNextListing (nodes : ℕ) (plan : Plan) (number : ℕ) (listing : Listing) : Type 0 where
  pub there : number < length plan.nodes
  pub on : IsListing nodes listing
  pub are : (node : ℕ) → IsCostWithin (leg_from plan number node) plan.cost (cost_in listing.reach node)
  pub below : AreBelow (cost_in listing.reach) nodes

-- how far a job is with the waypoint behind so many: not begun, its search, or the list of what that tells
abbrev pub IsNextOf : (nodes : ℕ) (plan : Plan) (number : ℕ) → NextList → Type 0
IsNextOf nodes plan number New = number ≤ length plan.nodes
IsNextOf nodes plan number (Searching source) = IsNextList plan number source
IsNextOf nodes plan number (Listed listing) = IsNextListing nodes plan number listing

-- it is a job over a world
pub record IsNearbyOn (world : WorldValue) (job : WithinJob) : Type 0 where
  pub plan : IsPlanOn world job.plan
  pub first : AreFirstNearby (nearby_plan world job) (nearby_plan world job).cost (length job.lists.items)
      (lists_in job.lists.items)
  pub next : IsNextOf (length world.map.nodes) (nearby_plan world job) (length job.lists.items) job.next

-- ---- How much is left

-- how many waypoints are left
abbrev pub waypoints_left : WorldValue → WithinJob → ℕ
waypoints_left world job = length (nearby_plan world job).nodes - length job.lists.items

-- what was counted for the next waypoint: labels that are settled, and nodes that are looked at
abbrev pub counted_on : (limit : ℕ) → NextList → ℕ
counted_on limit New = 0
counted_on limit (Searching source) = settled_of source.reach
counted_on limit (Listed listing) = limit + listing.node

-- how much may still be counted for lists
abbrev pub work_of_lists : WorldValue → WithinJob → ℕ
work_of_lists world job =
    let plan = nearby_plan world job in
    waypoints_left world job * most_for_list (length world.map.nodes) plan.limit - counted_on plan.limit job.next

-- how much may still be counted for them and for their text
abbrev pub work_of_nearby : WorldValue → WithinJob → ℕ
work_of_nearby world job =
    work_of_lists world job + most_for_features (length world.map.nodes) (length (nearby_plan world job).nodes)

-- how many steps may still count nothing for the next waypoint: the beginning of its search, and the end
abbrev pub stages_left : NextList → ℕ
stages_left New = 2
stages_left (Searching source) = 1
stages_left (Listed listing) = 0

-- how many steps may still count nothing: for each waypoint besides the end of its list
abbrev pub lists_left : WorldValue → WithinJob → ℕ
lists_left world job = 3 * waypoints_left world job + stages_left job.next

-- ---- Its steps

-- what a step comes to
abbrev pub StepsNearby : (world : WorldValue) (budget : ℕ) (before : WithinJob) →
    Stepped WithinJob (Result Nearby RouteError) → Type 0
StepsNearby world budget before step =
    StepsSearch (IsNearbyOn world) (nearby_plan world) (work_of_nearby world) (lists_left world)
    IsNearbyFor RefusesNearby budget before step

-- where a step ends with what was found, as much is left to spend as may be spent on its text
abbrev pub LeavesText : (world : WorldValue) (before : WithinJob) → Stepped WithinJob (Result Nearby RouteError) → Type 0
LeavesText world before step =
    (found : Nearby) → step.turn ≡ Done (Ok found) → nearby_to_write world found ≤ work_of_nearby world before - step.spent

-- memory ran out
abbrev pub IsWantOfMemory : Result Nearby RouteError → Type 0
IsWantOfMemory end = end ≡ Err NoMemory

-- a job over the same plan and with the same lists, in which what the next search told is listed, as yet no node of it
pub record IsListBegun (world : WorldValue) (before job : WithinJob) : Type 0 where
  pub on : IsNearbyOn world job
  pub same : job.plan ≡ before.plan
  pub lists_same : length job.lists.items ≡ length before.lists.items
  pub listing : Listing
  pub next_is : job.next ≡ Listed listing
  pub begins : listing.node ≡ 0

-- a job over the same plan, in which one list more than so many is found and the next search isn't begun
pub record IsListMore (world : WorldValue) (plan : JobPlan) (count : ℕ) (job : WithinJob) : Type 0 where
  pub on : IsNearbyOn world job
  pub same : job.plan ≡ plan
  pub counted : length job.lists.items ≡ suc count
  pub none : job.next ≡ New

-- what a turn of the search comes to for its job, which has the search after that turn: it goes on with it; or begins to
-- list what it told, or memory runs out; or the limit is spent
abbrev pub TurnsNearby : (world : WorldValue) (job : WithinJob) → ReachTurn →
    Turn WithinJob (Result Nearby RouteError) → Type 0
TurnsNearby world job reach.More turn = turn ≡ More job
TurnsNearby world job reach.Done turn = Says (IsListBegun world job) IsWantOfMemory turn
TurnsNearby world job reach.Budget turn =
    Says (λ _. ⊥) (λ end. EndsSearch IsNearbyFor RefusesNearby (nearby_plan world job) end × IsErr end) turn
