-- A search on a leg by the bound of a guide (this project's own rule).
use Rattle.std.specs.Prelude.{ℕ, Some}
use Rattle.cost_model.specs.Rides.{Terrain}
use Rattle.bike_space.specs.Kept.{task_of}
use Rattle.bike_space.specs.Tasks.{Task}
use Rattle.bike_space.specs.declared.rested.Rested.{Rested}
use Rattle.ride_bounds.specs.Guides.{IsBoundBy, IsGuide, low_by}
use Rattle.ride_bounds.specs.declared.guide.Guide.{Guide}
use Rattle.ride_bounds.specs.declared.leg_bound.LegBound.{LegBound}

-- the search on a leg in which what still has to be paid at least is told by a guide; that it is no exact sum is said by
-- a radius
abbrev pub guided_task : Terrain → Rested → Guide → Task
guided_task terrain kept guide =
    record (task_of terrain kept) { low = low_by terrain guide kept.target; radius = Some 0 }

-- the bounds of a guide of the terrain, for a target
pub record IsGuidedTo (terrain : Terrain) (guide : Guide) (target : ℕ) (bound : LegBound) : Type 0 where
  pub fits : IsGuide terrain guide
  pub found : IsBoundBy terrain guide target bound
