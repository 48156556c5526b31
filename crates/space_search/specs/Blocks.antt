-- The blocks of a front: parts of it whose labels lie near each other. This project's own rule.
use Rattle.std.specs.List.{slice_get, Contains}
use Rattle.std.specs.Prelude.{ℕ, ◌≡◌, ◌⊎◌, Some, List, [], ◌∷◌, ◌++◌}
use Rattle.space_search.specs.Rules.{IsUnder, Rules}
use Rattle.space_search.specs.declared.fronts.Block.{Block}
use Rattle.space_search.specs.declared.fronts.Member.{Member}
use Rattle.space_search.specs.declared.point.Point.{Point}

-- the labels of all these blocks
abbrev pub members_of : {S : Type 0} → List (Block S) → List (Member S)
members_of [] = []
members_of (block ∷ blocks) = block.members.items ++ members_of blocks

-- the point lies under those of all these labels
abbrev pub IsFloor : {S : Type 0} → Rules S → Point → List (Member S) → Type 0
IsFloor {S} rules low front = (one : Member S) → Contains front one → IsUnder low (rules.point one.state one.cost)

-- the lower point of each of these blocks lies under those of its labels
abbrev pub HaveFloors : {S : Type 0} → Rules S → List (Block S) → Type 0
HaveFloors {S} rules blocks =
    (place : ℕ) (block : Block S) → slice_get blocks place ≡ Some block →
    IsFloor rules block.low block.members.items

-- so does that of each block of each of these fronts
abbrev pub AreFloors : {S : Type 0} → Rules S → List (List (Block S)) → Type 0
AreFloors {S} rules fronts =
    (place : ℕ) (blocks : List (Block S)) → slice_get fronts place ≡ Some blocks → HaveFloors rules blocks

-- these are the labels that there were and one more
pub record Adds {S : Type 0} (one : Member S) (before after : List (Member S)) : Type 0 where
  pub from : (other : Member S) → Contains after other → Contains before other ⊎ (one ≡ other)
  pub stays : (other : Member S) → Contains before other → Contains after other
  pub new : Contains after one

-- these are the labels that there were
pub record IsSame {S : Type 0} (before after : List (Member S)) : Type 0 where
  pub from : (other : Member S) → Contains after other → Contains before other
  pub stays : (other : Member S) → Contains before other → Contains after other

-- each label of the whole is in one of two parts, and no other
pub record Splits {S : Type 0} (whole near far : List (Member S)) : Type 0 where
  pub of_near : (other : Member S) → Contains near other → Contains whole other
  pub of_far : (other : Member S) → Contains far other → Contains whole other
  pub all : (other : Member S) → Contains whole other → Contains near other ⊎ Contains far other

-- these two labels and no other
pub record IsPair {S : Type 0} (first second : Member S) (front : List (Member S)) : Type 0 where
  pub from : (other : Member S) → Contains front other → (first ≡ other) ⊎ (second ≡ other)
  pub has_first : Contains front first
  pub has_second : Contains front second
