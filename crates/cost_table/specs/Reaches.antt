-- What a reach stands for, and what its turns answer and settle (this project's own rule).
use Rattle.std.specs.Prelude.{ℕ, ◌≡◌, ◌+◌, ◌≤◌, ◌<◌, true, false, List, [], length, Option, Some, None}
use Rattle.std.specs.List.{Contains, slice_get}
use Rattle.cost_model.specs.declared.parts.Carry.{Carry}
use Rattle.bike_space.specs.Tasks.{Task, rules_of}
use Rattle.space_search.specs.Searches.{IsSearchOf}
use Rattle.space_search.specs.Turns.{IsClosedAndOrdered}
use Rattle.space_search.specs.View.{KeepsPlaces, Reached, view}
use Rattle.space_search.specs.declared.outcome.Outcome.{Outcome}
use Rattle.space_search.specs.declared.outcome.Outcome.TheVariants as search
use Rattle.cost_table.specs.Costs.{AreCosts, IsLeastCost, IsSpentOn, Quest, leg_to}
use Rattle.cost_table.specs.Endless.{endless}
use Rattle.cost_table.specs.Found.{IsNew, cost_at, waits}
use Rattle.cost_table.specs.declared.found.Found.{Found}
use Rattle.cost_table.specs.declared.reach.Reach.{Reach}
use Rattle.cost_table.specs.declared.reach.Stage.{Stage}
use Rattle.cost_table.specs.declared.reach.Stage.TheVariants as stage
use Rattle.cost_table.specs.declared.turn.ReachTurn.{ReachTurn}
use Rattle.cost_table.specs.declared.turn.ReachTurn.TheVariants.{More, Done, Budget}
use Rattle.cost_table.specs.declared.want.Want.{Want}
use Rattle.cost_table.specs.declared.want.Want.TheVariants.{Nodes, Within}

-- ---- What can be looked at

-- what is asked of a reach, over the space of a task
abbrev pub quest_of : Task → Reach → Quest
quest_of task reach = record {
  ride = task.leg.ride;
  source = task.leg.start;
  want = reach.found.want;
  limit = reach.limit;
}

-- how many labels a reach has settled
abbrev pub settled_of : Reach → ℕ
settled_of reach = reach.settled

-- the cost that a reach tells of a node
abbrev pub cost_in : Reach → ℕ → Option ℕ
cost_in reach node = cost_at reach.found node

-- all that is asked for is found
abbrev pub IsDone : Reach → Type 0
IsDone reach = reach.stage ≡ stage.Done

-- no turn was made
abbrev pub IsFresh : Reach → Type 0
IsFresh reach = reach.stage ≡ stage.New

-- a turn met want of memory
abbrev pub IsFailed : Reach → Type 0
IsFailed reach = reach.stage ≡ stage.Failed

-- ---- What a reach stands for

-- the node at which a label arrives
abbrev pub arrival : Task → Reached Carry → ℕ
arrival task label = task.leg.ride.roads.to label.state.link

-- of the nodes that are named those without a cost wait, and no settled label arrives at one that waits
pub record AreNamed (task : Task) (nodes : List ℕ) (found : Found) (settled : List (Reached Carry))
    : Type 0 where
  pub named : (node : ℕ) → waits found node ≡ true → Contains nodes node
  pub rest : (node : ℕ) → Contains nodes node → cost_at found node ≡ None → waits found node ≡ true
  pub away : waits found task.leg.start ≡ false
  pub some : (node : ℕ) × (waits found node ≡ true)
  pub unseen : (place : ℕ) (label : Reached Carry) → slice_get settled place ≡ Some label →
      waits found (arrival task label) ≡ false

-- each settled label costs at most so much, and where it arrives a cost is found, which is at most so much
pub record AreNear (task : Task) (most : ℕ) (found : Found) (settled : List (Reached Carry)) : Type 0 where
  pub low : (node cost : ℕ) → cost_at found node ≡ Some cost → cost ≤ most
  pub near : (place : ℕ) (label : Reached Carry) → slice_get settled place ≡ Some label → label.cost ≤ most
  pub seen : (place : ℕ) (label : Reached Carry) → slice_get settled place ≡ Some label →
      (cost : ℕ) × (cost_at found (arrival task label) ≡ Some cost)

-- what holds of what is found by what is asked
abbrev pub IsFoundBy : Want → (task : Task) (found : Found) (settled : List (Reached Carry)) → Type 0
IsFoundBy (Nodes nodes) task found settled = AreNamed task nodes.items found settled
IsFoundBy (Within most) task found settled = AreNear task most found settled

-- what is found after these labels are settled: costs are least ones, and the node that is left has cost 0
pub record IsFoundAfter (task : Task) (quest : Quest) (found : Found) (settled : List (Reached Carry))
    : Type 0 where
  pub sound : (node cost : ℕ) → cost_at found node ≡ Some cost → IsLeastCost (leg_to quest node) cost
  pub home : cost_at found task.leg.start ≡ Some 0
  pub by_want : IsFoundBy quest.want task found settled

-- what holds of a reach by how far it is
abbrev pub IsStage : (task : Task) (reach : Reach) → Stage → Type 0
IsStage task reach stage.New = IsNew reach.found × ((view reach.search).settled ≡ []) × (reach.settled ≡ 0)
IsStage task reach stage.Running =
    (reach.settled ≡ length (view reach.search).settled) ×
    IsFoundAfter task (quest_of task reach) reach.found (view reach.search).settled
IsStage task reach stage.Done = AreCosts (quest_of task reach) (cost_in reach)
IsStage task reach stage.Spent =
    (reach.settled ≡ reach.limit) ×
    ((walks : List (List ℕ)) × IsSpentOn (quest_of task reach) walks)
IsStage task reach stage.Failed = Unit {0}

-- it is a reach over the space of a task, which leaves the node that the reach leaves
pub record IsReachOn (task : Task) (reach : Reach) : Type 0 where
  pub of : IsSearchOf (endless (rules_of task)) reach.search
  pub from : reach.source ≡ task.leg.start
  pub within : reach.settled ≤ reach.limit
  pub stands : IsStage task reach reach.stage

-- ---- What a turn answers

-- that the reach goes on; or that it is done, with the costs of all that is asked; or that the limit is
-- spent, with its evidence
abbrev pub AnswersReach : (quest : Quest) (after : Reach) → ReachTurn → Type 0
AnswersReach quest after More = after.stage ≡ stage.Running
AnswersReach quest after Done = IsDone after × AreCosts quest (cost_in after)
AnswersReach quest after Budget = (walks : List (List ℕ)) × IsSpentOn quest walks

-- the labels that a turn settled: the whole quota where the reach goes on, else no more; and where the limit
-- is spent, less than the quota, and as many as the limit allows in all
abbrev pub CountsReach : (quota limit before after : ℕ) → ReachTurn → Type 0
CountsReach quota limit before after More = after ≡ before + quota
CountsReach quota limit before after Done = after ≤ before + quota
CountsReach quota limit before after Budget = (after < before + quota) × (after ≡ limit)

-- a turn has given this answer, which is the last one
abbrev pub HasEnded : Reach → ReachTurn → Type 0
HasEnded reach More = ⊥
HasEnded reach Done = reach.stage ≡ stage.Done
HasEnded reach Budget = reach.stage ≡ stage.Spent

-- ---- For the parts of a turn

-- what a turn leaves, also one that met want of memory: a reach on what was asked, with no fewer labels
-- settled, and within the limit
pub record TurnsReach (task : Task) (before after : Reach) : Type 0 where
  pub on : IsReachOn task after
  pub same : (other : Task) → quest_of other after ≡ quest_of other before
  pub grows : before.settled ≤ after.settled
  pub within : after.settled ≤ before.limit

-- it is under way: what is found is what its settled labels come to
pub record IsUnderWay (task : Task) (reach : Reach) : Type 0 where
  pub of : IsSearchOf (endless (rules_of task)) reach.search
  pub from : reach.source ≡ task.leg.start
  pub counted : reach.settled ≡ length (view reach.search).settled
  pub within : reach.settled ≤ reach.limit
  pub found : IsFoundAfter task (quest_of task reach) reach.found (view reach.search).settled

-- what stays of a reach, and is so of it after a part of a turn, also after want of memory
pub record StaysReach (task : Task) (before after : Reach) : Type 0 where
  pub of : IsSearchOf (endless (rules_of task)) after.search
  pub source : after.source ≡ before.source
  pub want : after.found.want ≡ before.found.want
  pub limit : after.limit ≡ before.limit
  pub stage : after.stage ≡ before.stage
  pub grows : before.settled ≤ after.settled
  pub within : after.settled ≤ before.limit

-- what a part of a turn answers
abbrev pub StepsTo : (task : Task) (quest : Quest) (after : Reach) → ReachTurn → Type 0
StepsTo task quest after More = IsUnderWay task after
StepsTo task quest after Done = AreCosts quest (cost_in after)
StepsTo task quest after Budget = (walks : List (List ℕ)) × IsSpentOn quest walks

-- one label more is settled than what is found speaks of, and than are counted: the last one
pub record IsOneMore (task : Task) (reach : Reach) : Type 0 where
  pub of : IsSearchOf (endless (rules_of task)) reach.search
  pub from : reach.source ≡ task.leg.start
  pub within : reach.settled ≤ reach.limit
  pub before : List (Reached Carry)
  pub last : Reached Carry
  pub counted : reach.settled ≡ length before
  pub kept : KeepsPlaces before (view reach.search).settled
  pub grown : length (view reach.search).settled ≡ length before + 1
  pub there : slice_get (view reach.search).settled (length before) ≡ Some last
  pub closed : IsClosedAndOrdered (endless (rules_of task)) (view reach.search).settled (Some last.cost)
  pub found : IsFoundAfter task (quest_of task reach) reach.found before

-- how far a reach is after this turn
abbrev pub stage_after : ReachTurn → Stage
stage_after More = stage.Running
stage_after Done = stage.Done
stage_after Budget = stage.Spent

-- how a reach ends by the end of its search: all is found, but not where the search can hold no more labels
abbrev pub EndsBy : Outcome ℕ → ReachTurn → Type 0
EndsBy (search.Found label) turn = turn ≡ Done
EndsBy search.NoWay turn = turn ≡ Done
EndsBy search.Budget turn = ⊥

-- a label is noted, and counted where the limit allows it: nothing else changes
pub record IsNoted (before after : Reach) : Type 0 where
  pub search : after.search ≡ before.search
  pub source : after.source ≡ before.source
  pub limit : after.limit ≡ before.limit
  pub want : after.found.want ≡ before.found.want
  pub stage : after.stage ≡ before.stage
  pub grows : before.settled ≤ after.settled
  pub within : after.settled ≤ before.limit
