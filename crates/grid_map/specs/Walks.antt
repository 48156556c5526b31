-- Walks across a grid (this project's own rule).
use Rattle.std.specs.Prelude.{ℕ, ◌≡◌, ◌≤◌, ◌+◌, List, [], ◌∷◌, Some, IsTrue}
use Rattle.grid_map.specs.declared.plan.Plan.{Plan}
use Rattle.grid_map.specs.Plan.{is_there, start_of, end_of}
use Rattle.grid_map.specs.Costs.{Costs}

-- the segment of this number leads from a to b at this cost
pub record GoesForward (plan : Plan) (costs : Costs) (a b cost k : ℕ) : Type 0 where
  pub there : IsTrue (is_there plan k)
  pub start : start_of k ≡ a
  pub end : end_of plan k ≡ b
  pub permitted : costs.forward k ≡ Some cost

-- the segment of this number leads back from a to b at this cost
pub record GoesBackward (plan : Plan) (costs : Costs) (a b cost k : ℕ) : Type 0 where
  pub there : IsTrue (is_there plan k)
  pub start : start_of k ≡ b
  pub end : end_of plan k ≡ a
  pub permitted : costs.backward k ≡ Some cost

-- a segment leads from a to b in a direction that isn't forbidden, at this cost
pub data Joins (plan : Plan) (costs : Costs) (a b cost : ℕ) : Type 0 where
  forth : (k : ℕ) → GoesForward plan costs a b cost k → Joins plan costs a b cost
  back : (k : ℕ) → GoesBackward plan costs a b cost k → Joins plan costs a b cost

-- a walk from one cell to another over these cells, the first and the last among them, at this cost
pub data IsGridWalk (plan : Plan) (costs : Costs) : ℕ → ℕ → List ℕ → ℕ → Type 0 where
  -- the walk over one cell costs nothing
  stays : {cell : ℕ} → IsGridWalk plan costs cell cell (cell ∷ []) 0
  -- a walk goes on from the cell that the first segment joins
  goes :
      {from next to cost rest : ℕ} {cells : List ℕ} →
      Joins plan costs from next cost → IsGridWalk plan costs next to cells rest →
      IsGridWalk plan costs from to (from ∷ cells) (cost + rest)

-- a walk from one cell to another, and no walk between them costs less
pub record IsLeastGridWalk
    (plan : Plan) (costs : Costs) (from to : ℕ) (cells : List ℕ) (cost : ℕ) : Type 0 where
  pub walk : IsGridWalk plan costs from to cells cost
  pub least :
      (others : List ℕ) (other : ℕ) → IsGridWalk plan costs from to others other → cost ≤ other

-- there is no walk from one cell to another
abbrev pub HasNoGridWalk : Plan → Costs → ℕ → ℕ → Type 0
HasNoGridWalk plan costs from to =
    (cells : List ℕ) (cost : ℕ) → IsGridWalk plan costs from to cells cost → ⊥

-- these costs permit the same walks as those, at the same costs
pub record HaveSameWalks (plan : Plan) (these those : Costs) : Type 0 where
  pub these_are :
      (from to : ℕ) (cells : List ℕ) (cost : ℕ) →
      IsGridWalk plan these from to cells cost → IsGridWalk plan those from to cells cost
  pub those_are :
      (from to : ℕ) (cells : List ℕ) (cost : ℕ) →
      IsGridWalk plan those from to cells cost → IsGridWalk plan these from to cells cost
