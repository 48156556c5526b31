-- What the turns of a search promise, in what it shows of itself. This project's own rule.
use Rattle.std.specs.Bool.{IsTrue}
use Rattle.std.specs.List.{slice_get}
use Rattle.std.specs.Prelude.{ℕ, ◌≡◌, ◌<◌, ◌≤◌, ◌+◌, false, Option, Some, None, List, [], ◌∷◌, ◌++◌, length}
use Rattle.space_search.specs.Ends.{Ends}
use Rattle.space_search.specs.Laws.{HasRank}
use Rattle.space_search.specs.Rules.{Rules}
use Rattle.space_search.specs.Runs.{IsRun, Reaches, IsUnreachable}
use Rattle.space_search.specs.View.{Reached, View, KeepsPlaces}
use Rattle.space_search.specs.declared.outcome.Outcome.{Outcome}

-- one of these labels covers the state at this cost
pub record IsCoveredBy {S : Type 0} (rules : Rules S) (labels : List (Reached S)) (state : S) (cost : ℕ)
    : Type 0 where
  pub place : ℕ
  pub label : Reached S
  pub there : slice_get labels place ≡ Some label
  pub covers : IsTrue (rules.covers label.state label.cost state cost)

-- what a start or a step gives is done with: one of these labels covers it, no goal is reached from it, or it
-- ranks at or above the floor; where there is no floor, one of the first two holds
pub data IsDone {S : Type 0} (rules : Rules S) (labels : List (Reached S)) (floor : Option ℕ)
    (state : S) (cost : ℕ) : Type 0 where
  covered : IsCoveredBy rules labels state cost → IsDone rules labels floor state cost
  hopeless : rules.low state ≡ None → IsDone rules labels floor state cost
  ranks :
      (bound : ℕ) (rank : ℕ) → floor ≡ Some bound → HasRank rules state cost rank → bound ≤ rank →
      IsDone rules labels floor state cost

-- the label's choices are a run to its state at its cost, with at most so many choices
pub record IsRunTo {S : Type 0} (rules : Rules S) (most : ℕ) (label : Reached S) : Type 0 where
  pub run : IsRun rules label.choices label.state label.cost
  pub short : length label.choices ≤ most

-- what holds of each label that is settled or that a spent limit shows: a run leads to it and to no goal, and
-- its rank is a number
pub record IsPassed {S : Type 0} (rules : Rules S) (most : ℕ) (label : Reached S) : Type 0 where
  pub valid : IsTrue (rules.is_valid label.state)
  pub run : IsRunTo rules most label
  pub no_goal : rules.is_goal label.state ≡ false
  pub rank : ℕ
  pub ranked : HasRank rules label.state label.cost rank

-- what holds of the settled labels at each moment, also after want of memory: each is a run to no goal, the
-- later ones have no smaller rank, and no earlier one covers a later one
pub record AreInOrder {S : Type 0} (rules : Rules S) (labels : List (Reached S)) : Type 0 where
  pub each :
      (place : ℕ) (label : Reached S) → slice_get labels place ≡ Some label → IsPassed rules (place + 1) label
  pub rising :
      (first second : ℕ) (a b : Reached S) (low high : ℕ) → first ≤ second →
      slice_get labels first ≡ Some a → slice_get labels second ≡ Some b →
      HasRank rules a.state a.cost low → HasRank rules b.state b.cost high → low ≤ high
  pub apart :
      (first second : ℕ) (a b : Reached S) → first < second → slice_get labels first ≡ Some a →
      slice_get labels second ≡ Some b →
      rules.covers a.state a.cost b.state b.cost ≡ false

-- none of these labels ranks above a run that reaches a goal
abbrev pub RanksBelowGoals : {S : Type 0} → Rules S → List (Reached S) → Type 0
RanksBelowGoals {S} rules labels =
    (place : ℕ) (label : Reached S) (rank : ℕ) → slice_get labels place ≡ Some label →
    HasRank rules label.state label.cost rank →
    (others : List ℕ) (other : ℕ) → Reaches rules others other → rank ≤ other

-- the settled labels are closed below the floor, each permitted start and each permitted step of a settled
-- label being done with, and in order. None was settled for nothing: none ranks above a run to a goal
pub record IsClosedAndOrdered {S : Type 0} (rules : Rules S) (labels : List (Reached S))
    (floor : Option ℕ) : Type 0 where
  pub starts :
      (number : ℕ) (state : S) (cost : ℕ) → number < rules.starts → rules.start number ≡ Some (state, cost) →
      IsDone rules labels floor state cost
  pub steps :
      (place : ℕ) (label : Reached S) (number : ℕ) (state : S) (cost : ℕ) →
      slice_get labels place ≡ Some label →
      number < rules.steps label.state → rules.step label.state number ≡ Some (state, cost) →
      IsDone rules labels floor state (label.cost + cost)
  pub ordered : AreInOrder rules labels
  pub below : RanksBelowGoals rules labels

-- a goal of least cost: it is reached by a run at its cost, and no run that reaches a goal costs less
pub record IsLeastGoal {S : Type 0} (rules : Rules S) (most : ℕ) (label : Reached S) : Type 0 where
  pub run : IsRunTo rules most label
  pub goal : IsTrue (rules.is_goal label.state)
  pub least : (others : List ℕ) (other : ℕ) → Reaches rules others other → label.cost ≤ other

-- the evidence of a spent limit: one label more than the limit, in order, none of which ranks above a run to
-- a goal
pub record IsSpent {S : Type 0} (rules : Rules S) (limit : ℕ) (shown : List (Reached S)) : Type 0 where
  pub count : length shown ≡ limit + 1
  pub ordered : AreInOrder rules shown
  pub below : RanksBelowGoals rules shown

-- how a search ended whose limit is spent: the limit is reached, and its settled labels and then the label
-- taken are the evidence; what ranks below the label taken is done with
pub record EndsSpent {S : Type 0} (rules : Rules S) (view : View S) : Type 0 where
  pub reached : length view.settled ≡ view.limit
  pub taken : Reached S
  pub rank : ℕ
  pub ranked : HasRank rules taken.state taken.cost rank
  pub spent : IsSpent rules view.limit (view.settled ++ taken ∷ [])
  pub closed : IsClosedAndOrdered rules view.settled (Some rank)

-- how a search ended that found a goal: the label of that number is a goal of least cost, numbered after the
-- settled labels, and what ranks below its cost is done with
pub record EndsFound {S : Type 0} (rules : Rules S) (view : View S) (label : ℕ) : Type 0 where
  pub numbered : label ≡ length view.settled
  pub goal : Reached S
  pub there : view.goal ≡ Some goal
  pub least : IsLeastGoal rules (label + 1) goal
  pub closed : IsClosedAndOrdered rules view.settled (Some goal.cost)

-- how a search ended whose queue is empty: no run reaches a goal, and everything is done with
pub record EndsNoWay {S : Type 0} (rules : Rules S) (view : View S) : Type 0 where
  pub unreachable : IsUnreachable rules
  pub closed : IsClosedAndOrdered rules view.settled None

-- what stands after a turn by which a search goes on: the last settled label is the floor
abbrev pub IsClosedSoFar : {S : Type 0} → Rules S → View S → Type 0
IsClosedSoFar {S} rules view =
    (place : ℕ) (last : Reached S) (rank : ℕ) → place + 1 ≡ length view.settled →
    slice_get view.settled place ≡ Some last →
    HasRank rules last.state last.cost rank → IsClosedAndOrdered rules view.settled (Some rank)

-- how a search ended: with the label of a goal, without a way, or with a spent limit
abbrev pub EndsSearch : {S : Type 0} → Rules S → View S → Outcome ℕ → Type 0
EndsSearch rules view = Ends (EndsFound rules view) (EndsNoWay rules view) (EndsSpent rules view)

-- what stands after a turn, also after want of memory: the limit stays, no more labels are settled than it
-- allows, each settled label keeps its place, and they are in order
pub record GoesOn {S : Type 0} (rules : Rules S) (before after : View S) : Type 0 where
  pub limit : after.limit ≡ before.limit
  pub within : length after.settled ≤ after.limit
  pub kept : KeepsPlaces before.settled after.settled
  pub ordered : AreInOrder rules after.settled
