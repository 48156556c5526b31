-- What a track is asked with, and its legs (this project's own rule).
use Rattle.std.specs.Prelude.{ℕ, ◌+◌, ◌<◌, ◌≤◌, length, get_or}
use Rattle.cost_model.specs.Rides.{Leg, Setting, Terrain, leg_between}
use Rattle.route_certificate.specs.declared.ask.TrackAsk.{TrackAsk}

-- the setting of what is asked on a terrain
abbrev pub setting_in : Terrain → TrackAsk → Setting
setting_in terrain ask = record { terrain = terrain; cut = ask.cut.now; turns = ask.turns }

-- the leg of a number: from the node of that number to the one after it
abbrev pub leg_in : (terrain : Terrain) (ask : TrackAsk) (number : ℕ) → Leg
leg_in terrain ask number =
    leg_between (setting_in terrain ask) (get_or ask.nodes.now number 0) (get_or ask.nodes.now (number + 1) 0)

-- what may be asked on a terrain: it names at most 100 nodes of the map
pub record IsAsk (terrain : Terrain) (ask : TrackAsk) : Type 0 where
  pub few : length ask.nodes.now ≤ 100
  pub nodes : (k : ℕ) → k < length ask.nodes.now → get_or ask.nodes.now k 0 < length terrain.map.nodes
