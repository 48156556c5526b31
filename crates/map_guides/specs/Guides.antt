-- The guide of a profile while it is made in spells (this project's own rule).
use Rattle.std.specs.Prelude.{◌≡◌, length}
use Rattle.cost_model.specs.Prices.{Prices}
use Rattle.map_guides.specs.declared.guide_making.GuideMaking.{GuideMaking}
use Rattle.overpass_graph.specs.Maps.{MapValue, roads_of}
use Rattle.ride_bounds.specs.Customizing.{IsRideCustomization}
use Rattle.ride_bounds.specs.Guides.{IsGuide}
use Rattle.ride_bounds.specs.Hierarchies.{IsMapHierarchy}
use Rattle.ride_bounds.specs.declared.guide.Guide.{Guide}
use Rattle.way_class.specs.Links.{links_of}
use Rattle.way_class.specs.declared.bound.Bound.{Bound}

-- how far the guide of a map is, by these facts of its links
pub record IsGuideMaking (map : MapValue) (bound : Bound) (making : GuideMaking) : Type 0 where
  pub bound_is : making.bound.value ≡ bound
  pub counted : (links_of bound).count ≡ length map.links
  pub hierarchy : IsMapHierarchy (roads_of map) making.hierarchy.value
  pub weights : IsRideCustomization (roads_of map) (links_of bound).facts making.hierarchy.value making.weights

-- it is a guide of the map with these facts, whatever the prices of climbing are
abbrev pub IsGuideOf : MapValue → Bound → Guide → Type 0
IsGuideOf map bound guide = (prices : Prices) → IsGuide (record { map = map; links = links_of bound; prices = prices }) guide
