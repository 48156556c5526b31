-- What a request that is made ready stands for, for the parts alone (this project's own rule).
use Rattle.std.specs.Prelude.{◌≡◌, ℕ, ◌<◌, ◌≤◌, List, length, get_or}
use Rattle.cost_model.specs.OpenLinks.{is_cut}
use Rattle.cost_model.specs.Rides.{Setting}
use Rattle.geo_int.specs.Place.{Place}
use Rattle.ride_certificates.specs.declared.basis.Basis.{Basis}
use Rattle.route_engine.specs.Jobs.{setting_by, terrain_of}
use Rattle.route_engine.specs.Settings.{IsSettingOf, Question, open_map_of}
use Rattle.route_engine.specs.Waypoints.{AreNodes}
use Rattle.route_ready.specs.Worlds.{WorldValue}
use Rattle.way_class.specs.Links.{links_of}

-- it fits a world: it has facts for each link, and at least one and at most 100 nodes of the map
pub record IsBasisOn (world : WorldValue) (basis : Basis) : Type 0 where
  pub counted : (links_of basis.ready.bound.value).count ≡ length world.map.links
  pub some : 1 ≤ length basis.nodes.items
  pub few : length basis.nodes.items ≤ 100
  pub nodes_in : (k : ℕ) → k < length basis.nodes.items → get_or basis.nodes.items k 0 < length world.map.nodes

-- what its legs go over, by its own marks
abbrev pub setting_on : WorldValue → Basis → Setting
setting_on world basis = setting_by world basis.ready basis.cut.items

-- it is made for a setting and these waypoints
pub record IsBasisFor (world : WorldValue) (setting : Setting) (waypoints : List Place) (basis : Basis) : Type 0 where
  pub on : IsBasisOn world basis
  pub terrain : terrain_of world basis.ready ≡ setting.terrain
  pub turns : basis.ready.turns ≡ setting.turns
  pub marks : (link : ℕ) → is_cut basis.cut.items link ≡ is_cut setting.cut link
  pub nodes : AreNodes (open_map_of setting) waypoints basis.nodes.items

-- it is made for a question
pub record IsBasisOf (world : WorldValue) (question : Question) (basis : Basis) : Type 0 where
  pub setting : Setting
  pub over : IsSettingOf question setting
  pub is : IsBasisFor world setting question.asked.waypoints basis
