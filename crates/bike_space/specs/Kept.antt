-- What a space of a leg keeps while it rests, and when it may be woken (this project's own rule).
use Rattle.std.specs.Prelude.{◌≡◌, ℕ, ◌<◌, length}
use Rattle.cost_model.specs.Rides.{Leg, Setting, Terrain, leg_between}
use Rattle.least_sums.specs.Sums.{sum_of}
use Rattle.overpass_graph.specs.Maps.{roads_of}
use Rattle.space_search.specs.Laws.{IsSpace}
use Rattle.bike_space.specs.Marks.{is_marked}
use Rattle.bike_space.specs.Remaining.{IsRemainingUpTo}
use Rattle.bike_space.specs.Tasks.{Task, rules_of}
use Rattle.bike_space.specs.Lawful.{IsTask}
use Rattle.bike_space.specs.declared.ask.LegAsk.{LegAsk}
use Rattle.bike_space.specs.declared.rested.Rested.{Rested}

-- the leg that is asked for on a terrain
abbrev pub leg_asked : (terrain : Terrain) (ask : LegAsk) → Leg
leg_asked terrain ask =
    leg_between (record { terrain = terrain; cut = ask.cut.now; turns = ask.turns }) ask.start ask.target

-- the setting of the leg on a terrain
abbrev pub setting_of : Terrain → Rested → Setting
setting_of terrain kept = record { terrain = terrain; cut = kept.cut.items; turns = kept.turns }

-- the search on the leg on a terrain
abbrev pub task_of : Terrain → Rested → Task
task_of terrain kept = record {
  leg = leg_between (setting_of terrain kept) kept.start kept.target;
  used = is_marked kept.used.items;
  low = λ link. sum_of kept.low.sums ((roads_of terrain.map).to link);
  radius = kept.low.radius;
}

-- what still has to be paid is known behind each link, up to the radius of the search where it has one
abbrev pub AreKnownBehind : Task → Type 0
AreKnownBehind task =
    (link : ℕ) → link < task.leg.ride.roads.links →
    IsRemainingUpTo task.leg task.used task.radius (task.leg.ride.roads.to link) (task.low link)

-- what is kept fits a terrain: there is a sum for each node, and the search is lawful, knows what still has to be
-- paid, and keeps the laws of a space
pub record Wakes (terrain : Terrain) (kept : Rested) : Type 0 where
  pub sums : length kept.low.sums ≡ length terrain.map.nodes
  pub lawful : IsTask (task_of terrain kept)
  pub known : AreKnownBehind (task_of terrain kept)
  pub keeps : IsSpace (rules_of (task_of terrain kept))
