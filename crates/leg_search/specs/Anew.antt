-- When a search on a leg begins anew, and what it is then (this project's own rule).
use Rattle.std.specs.Prelude.{◌≡◌, ◌≢◌, ℕ, ◌+◌, ◌<◌, ◌≤◌, ◌^◌, length}
use Rattle.bike_space.specs.Kept.{Wakes, task_of}
use Rattle.bike_space.specs.declared.rested.Rested.{Rested}
use Rattle.cost_model.specs.Rides.{Terrain}
use Rattle.leg_search.specs.Quests.{GoesOnAs, counted_of, most_counted, quest_in}
use Rattle.leg_search.specs.Steps.{stages_left}
use Rattle.leg_search.specs.declared.search.Aim.{Aim}
use Rattle.leg_search.specs.declared.search.LegSearch.{LegSearch}
use Rattle.ride_bounds.specs.Guides.{IsGuided}

-- a search on the leg of a space that rests may begin anew with this aim, and count so much more
pub record MayBegin (terrain : Terrain) (kept : Rested) (aim : Aim) (more : ℕ) : Type 0 where
  pub wakes : Wakes terrain kept
  pub differ : kept.start ≢ kept.target
  pub links : length terrain.map.links < 2 ^ 32
  pub small : aim.limit < 2 ^ 32
  pub guided : IsGuided terrain aim.guide
  pub within : aim.counted + more ≤ most_counted (length terrain.map.links) aim.limit

-- it begins anew with the same quest and count, and changes what it does fewer times than so many
pub record BeginsAnew (terrain : Terrain) (kept : Rested) (aim : Aim) (most : ℕ) (next : LegSearch) : Type 0 where
  pub on : GoesOnAs terrain (quest_in (task_of terrain kept) aim.limit aim.runs) next
  pub same : counted_of next ≡ aim.counted
  pub fewer : stages_left next.aim.first next.stage < most
