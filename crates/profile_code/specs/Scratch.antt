-- What the runs of one code work in. This project's own rule.
use Rattle.std.specs.Prelude.{◌≡◌, ◌<◌, ◌^◌, List, length, ℤ}
use Rattle.profile_code.specs.Effects.{global_places, way_places, node_place}
use Rattle.profile_code.specs.Flat.{Flat, global_run}
use Rattle.profile_code.specs.Machine.{Finished}
use Rattle.profile_code.specs.declared.scratch.Scratch.{Scratch}

-- it was made for this code: it has room for the deepest stack and for the values of each section, and knows
-- where the names with an effect are assigned last
pub record IsScratchOf (flat : Flat) (scratch : Scratch) : Type 0 where
  pub stack : scratch.stack.room ≡ flat.room
  pub global : scratch.global.room ≡ length flat.global.names
  pub way : scratch.way.room ≡ length flat.way.names
  pub node : scratch.node.room ≡ length flat.node.names
  pub few_global : length flat.global.names < 2 ^ 32
  pub few_way : length flat.way.names < 2 ^ 32
  pub few_node : length flat.node.names < 2 ^ 32
  pub global_places : scratch.global_places ≡ global_places flat.global.names
  pub way_places : scratch.way_places ≡ way_places flat.way.names
  pub node_place : scratch.node_place ≡ node_place flat.node.names

-- the values of the global section that it holds
abbrev pub held_values : Scratch → List ℤ
held_values scratch = scratch.global.numbers

-- it is one of this code, and holds the values of the global section's run, which meets no fault
pub record HoldsGlobals (flat : Flat) (scratch : Scratch) : Type 0 where
  pub made : IsScratchOf flat scratch
  pub values : global_run flat ≡ Finished (held_values scratch)
