-- What the covering test asks: for each slot a front of settled labels. This project's own rule.
use Rattle.std.specs.Bool.{IsTrue}
use Rattle.std.specs.List.{slice_get, Contains}
use Rattle.std.specs.Prelude.{ℕ, ◌≡◌, ◌<◌, ◌⊎◌, ◌-◌, ◌/◌, ◌%◌, ◌^◌, Bool, true, false, nat_eq, map, Option, Some, None, List, [], ◌∷◌, length, get_or}
use Rattle.item_list.specs.Pages.{numbers_of}
use Rattle.space_search.specs.Blocks.{members_of, AreFloors}
use Rattle.space_search.specs.Laws.{Supersedes}
use Rattle.space_search.specs.Rules.{Rules, LOW_BOUND}
use Rattle.space_search.specs.declared.fronts.Block.{Block}
use Rattle.space_search.specs.declared.fronts.Fronts.{Fronts}
use Rattle.space_search.specs.declared.fronts.Head.{Head}
use Rattle.space_search.specs.declared.fronts.Head.TheVariants.{Empty, One, Many}
use Rattle.space_search.specs.declared.fronts.Member.{Member}
use Rattle.space_search.specs.declared.label.Label.{Label}

-- what a front is read from: the labels by number, where the front of each slot stands, and the fronts of
-- several labels
pub record Asked (S : Type 0) : Type 0 where
  pub labels : List (Label S)
  pub heads : List Head
  pub many : List (List (Block S))

-- the head that these say of a number: whether it is 0, whether it is odd, and its half
abbrev pub head_by : Bool → Bool → ℕ → Head
head_by true odd half = Empty
head_by false true half = One (half % 2 ^ 32)
head_by false false half = Many ((half - 1) % 2 ^ 32)

-- the head that a number says: 0 an empty front, an odd one the number of its only label, another even one the
-- place of a front of several
abbrev pub head_of : ℕ → Head
head_of code = head_by (nat_eq code 0) (nat_eq (code % 2) 1) (code / 2)

-- the heads that numbers say
abbrev pub heads_of : List ℕ → List Head
heads_of codes = map head_of codes

-- the fronts of a search, with its labels
abbrev pub asked : {S : Type 0} → List (Label S) → Fronts S → Asked S
asked labels fronts = record { labels = labels; heads = heads_of fronts.heads; many = numbers_of fronts.many.items }

-- what the covering test asks of a label
abbrev pub member_of : {S : Type 0} → Label S → Member S
member_of label = record { cost = label.cost; state = label.state }

-- the front of a label that there may be
abbrev pub alone : {S : Type 0} → Option (Label S) → List (Member S)
alone None = []
alone (Some label) = member_of label ∷ []

-- the front that stands there
abbrev pub front_at : {S : Type 0} → Asked S → Head → List (Member S)
front_at asked Empty = []
front_at asked (One number) = alone (slice_get asked.labels number)
front_at asked (Many place) = members_of (get_or asked.many place [])

-- there is such a front
abbrev pub IsHead : {S : Type 0} → Asked S → Head → Type 0
IsHead asked Empty = Unit {0}
IsHead {S} asked (One number) = (label : Label S) × (slice_get asked.labels number ≡ Some label)
IsHead asked (Many place) = place < length asked.many

-- each slot has a front, and two slots share none of several labels
pub record AreFronts {S : Type 0} (asked : Asked S) : Type 0 where
  pub heads : (slot : ℕ) (head : Head) → slice_get asked.heads slot ≡ Some head → IsHead asked head
  pub apart :
      (a b place : ℕ) → slice_get asked.heads a ≡ Some (Many place) → slice_get asked.heads b ≡ Some (Many place) →
      a ≡ b

-- the covering test asks this of the slot
pub record IsAsked {S : Type 0} (asked : Asked S) (slot : ℕ) (one : Member S) : Type 0 where
  pub head : Head
  pub at : slice_get asked.heads slot ≡ Some head
  pub among : Contains (front_at asked head) one

-- a space can be asked of this state at this cost
pub record FitsTest {S : Type 0} (rules : Rules S) (one : Member S) : Type 0 where
  pub valid : IsTrue (rules.is_valid one.state)
  pub small : one.cost < LOW_BOUND

-- a space can be asked of each of these
abbrev pub FitTest : {S : Type 0} → Rules S → List (Member S) → Type 0
FitTest {S} rules front = (one : Member S) → Contains front one → FitsTest rules one

-- what left a front is superseded
pub record Thins {S : Type 0} (rules : Rules S) (one : Member S) (before after : List (Member S)) : Type 0 where
  pub from : (other : Member S) → Contains after other → Contains before other
  pub rest :
      (other : Member S) → Contains before other →
      Contains after other ⊎ Supersedes rules one.state one.cost other.state other.cost

-- a label joined a front, and what left that is superseded by it
pub record Gains {S : Type 0} (rules : Rules S) (one : Member S) (before after : List (Member S)) : Type 0 where
  pub from : (other : Member S) → Contains after other → Contains before other ⊎ (one ≡ other)
  pub new : Contains after one
  pub rest :
      (other : Member S) → Contains before other →
      Contains after other ⊎ Supersedes rules one.state one.cost other.state other.cost

-- a label joined the front of its slot, what left that is superseded by it, and the other slots ask what they asked
pub record Joins {S : Type 0} (rules : Rules S) (before after : Asked S) (slot : ℕ) (one : Member S) : Type 0 where
  pub slots : length after.heads ≡ length before.heads
  pub fronts : AreFronts after
  pub floors : AreFloors rules after.many
  pub from :
      (other_slot : ℕ) (other : Member S) → IsAsked after other_slot other →
      IsAsked before other_slot other ⊎ ((other_slot ≡ slot) × (one ≡ other))
  pub new : IsAsked after slot one
  pub rest :
      (other_slot : ℕ) (other : Member S) → IsAsked before other_slot other →
      IsAsked after other_slot other ⊎
      ((other_slot ≡ slot) × Supersedes rules one.state one.cost other.state other.cost)
