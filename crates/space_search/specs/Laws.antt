-- The laws of a search space, in five groups. They speak of valid states alone.
-- This project's own rule.
use Rattle.std.specs.Prelude.{ℕ, ◌≡◌, ◌<◌, ◌≤◌, ◌+◌, IsTrue, Some, None, List}
use Rattle.std.specs.Option.{is_some}
use Rattle.space_search.specs.Rules.{Rules, COST_BOUND, IsUnder, LOW_BOUND}
use Rattle.space_search.specs.Runs.{Walks}

-- a state that a start or step may give: it is valid, and what it costs stays below the bound
pub record IsMove {S : Type 0} (rules : Rules S) (state : S) (cost : ℕ) : Type 0 where
  pub valid : IsTrue (rules.is_valid state)
  pub cheap : cost < COST_BOUND

-- first group: what starts and steps give is a state of the space at a bounded cost, and each state lies
-- in one of the cells and in one of the slots
pub record HasMoves {S : Type 0} (rules : Rules S) : Type 0 where
  pub starts :
      (number : ℕ) (state : S) (cost : ℕ) → number < rules.starts →
      rules.start number ≡ Some (state, cost) → IsMove rules state cost
  pub steps :
      (from : S) (number : ℕ) (state : S) (cost : ℕ) → IsTrue (rules.is_valid from) →
      number < rules.steps from → rules.step from number ≡ Some (state, cost) → IsMove rules state cost
  pub cell : (state : S) → IsTrue (rules.is_valid state) → rules.cell state < rules.cells
  pub slot : (state : S) → IsTrue (rules.is_valid state) → rules.slot state < rules.slots

-- second group: covering holds only in one slot, is reflexive and transitive, what covers costs no more, and
-- its point lies under that of what it covers
pub record HasCovering {S : Type 0} (rules : Rules S) : Type 0 where
  pub one_slot :
      (a b : S) (ca cb : ℕ) → IsTrue (rules.is_valid a) → IsTrue (rules.is_valid b) →
      IsTrue (rules.covers a ca b cb) → rules.slot a ≡ rules.slot b
  pub itself : (a : S) (ca : ℕ) → IsTrue (rules.is_valid a) → IsTrue (rules.covers a ca a ca)
  pub through :
      (a b c : S) (ca cb cc : ℕ) → IsTrue (rules.is_valid a) → IsTrue (rules.is_valid b) →
      IsTrue (rules.is_valid c) →
      IsTrue (rules.covers a ca b cb) → IsTrue (rules.covers b cb c cc) → IsTrue (rules.covers a ca c cc)
  pub cheaper :
      (a b : S) (ca cb : ℕ) → IsTrue (rules.is_valid a) → IsTrue (rules.is_valid b) →
      IsTrue (rules.covers a ca b cb) → ca ≤ cb
  pub under :
      (a b : S) (ca cb : ℕ) → IsTrue (rules.is_valid a) → IsTrue (rules.is_valid b) →
      IsTrue (rules.covers a ca b cb) → IsUnder (rules.point a ca) (rules.point b cb)

-- third group: covering is kept by every step
abbrev pub KeepsCovering : {S : Type 0} → Rules S → Type 0
KeepsCovering {S} rules =
    (a b : S) (ca cb : ℕ) → IsTrue (rules.is_valid a) → IsTrue (rules.is_valid b) →
    IsTrue (rules.covers a ca b cb) →
    (number : ℕ) → number < rules.steps b →
    (first second : S) (more other : ℕ) → rules.step a number ≡ Some (first, more) →
    rules.step b number ≡ Some (second, other) →
    IsTrue (rules.covers first (ca + more) second (cb + other))

-- fourth group: a covered state has the permitted steps and the goal answer of what covers it
pub record CoveredAlike {S : Type 0} (rules : Rules S) : Type 0 where
  pub steps :
      (a b : S) (ca cb : ℕ) → IsTrue (rules.is_valid a) → IsTrue (rules.is_valid b) →
      IsTrue (rules.covers a ca b cb) → rules.steps a ≡ rules.steps b
  pub permitted :
      (a b : S) (ca cb : ℕ) → IsTrue (rules.is_valid a) → IsTrue (rules.is_valid b) →
      IsTrue (rules.covers a ca b cb) → (number : ℕ) → number < rules.steps b →
      is_some (rules.step a number) ≡ is_some (rules.step b number)
  pub goal :
      (a b : S) (ca cb : ℕ) → IsTrue (rules.is_valid a) → IsTrue (rules.is_valid b) →
      IsTrue (rules.covers a ca b cb) → rules.is_goal a ≡ rules.is_goal b

-- fifth group: the lower bound is bounded, is 0 at a goal, is none only where no goal is reached, and
-- falls along a step by no more than the step costs
pub record HasBound {S : Type 0} (rules : Rules S) : Type 0 where
  pub small :
      (state : S) (low : ℕ) → IsTrue (rules.is_valid state) → rules.low state ≡ Some low → low < LOW_BOUND
  pub goal :
      (state : S) → IsTrue (rules.is_valid state) → IsTrue (rules.is_goal state) → rules.low state ≡ Some 0
  pub hopeless :
      (state end : S) (cost total : ℕ) (numbers : List ℕ) → IsTrue (rules.is_valid state) →
      rules.low state ≡ None →
      Walks rules state cost numbers end total → IsTrue (rules.is_goal end) → ⊥
  pub step :
      (from : S) (number : ℕ) (state : S) (cost before after : ℕ) → IsTrue (rules.is_valid from) →
      number < rules.steps from → rules.step from number ≡ Some (state, cost) →
      rules.low from ≡ Some before → rules.low state ≡ Some after → before ≤ cost + after

-- the laws of a space
pub record IsSpace {S : Type 0} (rules : Rules S) : Type 0 where
  pub moves : HasMoves rules
  pub covering : HasCovering rules
  pub kept : KeepsCovering rules
  pub alike : CoveredAlike rules
  pub bound : HasBound rules

-- the rank of a state that was reached at a cost: the cost plus the lower bound, where that is a number
pub record HasRank {S : Type 0} (rules : Rules S) (state : S) (cost rank : ℕ) : Type 0 where
  pub low : ℕ
  pub is : rules.low state ≡ Some low
  pub sum : rank ≡ cost + low

-- what the second state covers at its cost, of the valid states that rank no less than the first, the first
-- covers at its own. So the second is needless in the covering test once all that comes ranks no less than
-- the first
abbrev pub Supersedes : {S : Type 0} → Rules S → S → ℕ → S → ℕ → Type 0
Supersedes {S} rules a ca b cb =
    (state : S) (cost low high : ℕ) → IsTrue (rules.is_valid state) →
    HasRank rules a ca low → HasRank rules state cost high → low ≤ high →
    IsTrue (rules.covers b cb state cost) → IsTrue (rules.covers a ca state cost)

-- the same by costs: what the second state covers at its cost, of the valid states that cost no less than the first,
-- the first covers at its own
abbrev pub SupersedesByCost : {S : Type 0} → Rules S → S → ℕ → S → ℕ → Type 0
SupersedesByCost {S} rules a ca b cb =
    (state : S) (cost : ℕ) → IsTrue (rules.is_valid state) → ca ≤ cost → IsTrue (rules.covers b cb state cost) →
    IsTrue (rules.covers a ca state cost)

-- a lower bound that covered states share, and that is none behind every step of a state where it is none
pub record HasEvenBound {S : Type 0} (rules : Rules S) : Type 0 where
  pub alike :
      (a b : S) (ca cb : ℕ) → IsTrue (rules.is_valid a) → IsTrue (rules.is_valid b) →
      IsTrue (rules.covers a ca b cb) → rules.low a ≡ rules.low b
  pub stays :
      (from : S) (number : ℕ) (state : S) (cost : ℕ) → IsTrue (rules.is_valid from) →
      number < rules.steps from → rules.step from number ≡ Some (state, cost) →
      rules.low from ≡ None → rules.low state ≡ None

-- the lower bound says nothing: it is 0 everywhere, so that ranks are costs
abbrev pub IsBlind : {S : Type 0} → Rules S → Type 0
IsBlind {S} rules = (state : S) → IsTrue (rules.is_valid state) → rules.low state ≡ Some 0

-- no start or step costs more than this
pub record IsDearest {S : Type 0} (rules : Rules S) (dearest : ℕ) : Type 0 where
  pub starts :
      (number : ℕ) (state : S) (cost : ℕ) → number < rules.starts →
      rules.start number ≡ Some (state, cost) → cost ≤ dearest
  pub steps :
      (from : S) (number : ℕ) (state : S) (cost : ℕ) → IsTrue (rules.is_valid from) →
      number < rules.steps from → rules.step from number ≡ Some (state, cost) → cost ≤ dearest
