-- What a search knows of its settled labels while the steps of one are listed. This project's own rule.
use Rattle.std.specs.Bool.{IsTrue}
use Rattle.std.specs.List.{Contains, slice_get}
use Rattle.std.specs.Prelude.{ℕ, ◌≡◌, ◌<◌, ◌+◌, ◌⊎◌, Option, Some, None, List, length, get_or, option_map}
use Rattle.space_search.specs.Fronts.{Asked, AreFronts, FitsTest, IsAsked, asked, member_of}
use Rattle.space_search.specs.Rules.{Rules}
use Rattle.space_search.specs.declared.fronts.Head.{Head}
use Rattle.space_search.specs.declared.fronts.Head.TheVariants.{Empty, One, Many}
use Rattle.space_search.specs.declared.fronts.Member.{Member}
use Rattle.space_search.specs.declared.known.Known.{Known}
use Rattle.space_search.specs.declared.step.Step.{Step}

-- the fronts of what is known
abbrev pub known_fronts : {S : Type 0} → Known S → Asked S
known_fronts known = asked known.labels.now.items known.fronts.now

-- the label that a head names by its number; none of an empty front, and none of one that stands in a list of
-- its own, since that has several labels or once had
abbrev pub only_at : {S : Type 0} → Asked S → Head → Option (Member S)
only_at asked Empty = None
only_at asked (One number) = option_map member_of (slice_get asked.labels number)
only_at asked (Many place) = None

-- the only label of a slot, where it has one and never had several at once
abbrev pub only_of : {S : Type 0} → Asked S → ℕ → Option (Member S)
only_of asked slot = only_at asked (get_or asked.heads slot Empty)

-- a slot is asked this label
pub record Knows {S : Type 0} (known : Known S) (one : Member S) : Type 0 where
  pub slot : ℕ
  pub asked : IsAsked (known_fronts known) slot one

-- each slot has a front
abbrev pub HaveKnown : {S : Type 0} → Known S → Type 0
HaveKnown known = AreFronts (known_fronts known)

-- each slot of a space has a front, and the space can be asked of what stands there
pub record AreKnown {S : Type 0} (rules : Rules S) (known : Known S) : Type 0 where
  pub fronts : HaveKnown known
  pub slots : length (known_fronts known).heads ≡ rules.slots
  pub fits : (one : Member S) → Knows known one → FitsTest rules one

-- a known label covers the state at this cost
pub record IsKnown {S : Type 0} (rules : Rules S) (known : Known S) (state : S) (cost : ℕ) : Type 0 where
  pub one : Member S
  pub is : Knows known one
  pub covers : IsTrue (rules.covers one.state one.cost state cost)

-- these steps stand in the order of their numbers, each once
abbrev pub AreRising : {S : Type 0} → List (Step S) → Type 0
AreRising {S} steps =
    (a b : ℕ) (first second : Step S) → a < b → slice_get steps a ≡ Some first → slice_get steps b ≡ Some second →
    first.choice < second.choice

-- a list has steps of another in the order of their numbers, each once, and each that it leaves out a known
-- label covers, where the steps begin at this cost
pub record LeavesKnown {S : Type 0} (rules : Rules S) (known : Known S) (cost : ℕ) (all listed : List (Step S))
    : Type 0 where
  pub from : (one : Step S) → Contains listed one → Contains all one
  pub rising : AreRising listed
  pub rest :
      (one : Step S) → Contains all one → Contains listed one ⊎ IsKnown rules known one.state (cost + one.cost)
