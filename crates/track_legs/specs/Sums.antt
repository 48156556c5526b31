-- What the legs of a track cost and rank together (this project's own rule).
use Rattle.std.specs.Prelude.{ℕ, List}
use Rattle.std.specs.List.{sum_by}
use Rattle.track_legs.specs.declared.track.Leg.{Leg}

-- the costs of all legs, in millionths
unfoldable pub total_cost : List Leg → ℕ
total_cost legs = sum_by (λ leg. leg.cost) legs

-- the ranks of all legs, in millionths
unfoldable pub total_rank : List Leg → ℕ
total_rank legs = sum_by (λ leg. leg.rank) legs
