-- A space of a leg while it is opened: what still has to be paid is found in steps (this project's own rule).
use Rattle.std.specs.Prelude.{◌≡◌, ℕ, ◌<◌, Bool, length, Option}
use Rattle.cost_model.specs.Rides.{Leg, Terrain, leg_between}
use Rattle.least_sums.specs.Findings.{EndsWhole, IsFinding, steps_left}
use Rattle.least_sums.specs.declared.near.Near.{Near}
use Rattle.overpass_graph.specs.Maps.{roads_of}
use Rattle.bike_space.specs.Kept.{Wakes, task_of}
use Rattle.bike_space.specs.Marks.{is_marked}
use Rattle.bike_space.specs.Remaining.{priced_by}
use Rattle.bike_space.specs.declared.opening.Opening.{Opening}
use Rattle.bike_space.specs.declared.rested.Rested.{Rested}

-- the leg whose space is opened on a terrain
abbrev pub leg_of : Terrain → Opening → Leg
leg_of terrain opening =
    leg_between (record { terrain = terrain; cut = opening.asked.cut.items; turns = opening.asked.turns }) opening.asked.start
    opening.asked.target

-- the links whose segments earlier alternatives used
abbrev pub used_of : Opening → ℕ → Bool
used_of opening = is_marked opening.asked.used.items

-- how far what still has to be paid is found; none where it is for all nodes
abbrev pub near_of : Opening → Option Near
near_of opening = opening.finding.course.near

-- how many steps are left at most
abbrev pub left_of : Opening → ℕ
left_of opening = steps_left opening.finding

-- a space that is opened on a terrain: what still has to be paid to its target is being found
pub record IsOpening (terrain : Terrain) (opening : Opening) : Type 0 where
  pub start : opening.asked.start < length terrain.map.nodes
  pub target : opening.finding.course.target ≡ opening.asked.target
  pub finds :
      IsFinding (roads_of terrain.map) (priced_by terrain opening.asked.cut.items opening.asked.used.items).price opening.finding

-- a step goes on with the same leg, of which less is left; where what still has to be paid is found for all nodes, it
-- still is
pub record OpensOn (terrain : Terrain) (before after : Opening) : Type 0 where
  pub opens : IsOpening terrain after
  pub leg : leg_of terrain after ≡ leg_of terrain before
  pub used : used_of after ≡ used_of before
  pub all : EndsWhole (near_of before) (near_of after)
  pub fewer : left_of after < left_of before

-- what the space keeps once it is open: it may be woken, and searches the leg; where what still has to be paid is
-- found for all nodes there is no radius
pub record IsOpened (terrain : Terrain) (opening : Opening) (kept : Rested) : Type 0 where
  pub wakes : Wakes terrain kept
  pub leg : (task_of terrain kept).leg ≡ leg_of terrain opening
  pub used : (task_of terrain kept).used ≡ used_of opening
  pub whole : EndsWhole (near_of opening) (task_of terrain kept).radius
