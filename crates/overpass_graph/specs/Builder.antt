-- What a builder of a map stands for, and what the text that it was fed comes to: the map of its elements, or
-- its first fault (this project's own rule; a missing node is told after all other faults).
use Rattle.std.specs.Prelude.{◌≡◌, ◌⊎◌, ℕ, true, false, List, Option, Some, None, Ok, Err}
use Rattle.map_tables.specs.Draft.{Draft}
use Rattle.map_tables.specs.declared.limits.Limits.{Limits}
use Rattle.map_tables.specs.declared.error.MapError.{MapError}
use Rattle.map_elements.specs.Outcome.{ComesTo}
use Rattle.map_elements.specs.Reader as reader
use Rattle.overpass_graph.specs.declared.builder.MapBuilder.{MapBuilder}
use Rattle.overpass_graph.specs.Links.{first_missing, missing_fault}
use Rattle.overpass_graph.specs.Maps.{MapValue, IsMapOf}

-- how much a map may hold: 8,000,000 nodes, ways, segments of ways and members of relations
abbrev pub most : Limits
most = record { nodes = 8000000; ways = 8000000; segments = 8000000; members = 8000000 }

-- how many bytes were fed
abbrev pub fed : MapBuilder → ℕ
fed builder = reader.fed builder.reader

-- the refusal that every call answers from now on
abbrev pub refusal : MapBuilder → Option MapError
refusal builder = reader.refusal builder.reader

-- the builder has refused nothing, and stands for these bytes of a text
abbrev pub StandsForText : MapBuilder → List ℕ → Type 0
StandsForText builder bytes = reader.StandsFor most builder.reader bytes

-- the bytes are the beginning of a text: these elements have come, and none is at fault
pub record MayBecomeMap (bytes : List ℕ) : Type 0 where
  pub draft : Draft
  pub comes : ComesTo most bytes false (Ok draft)

-- the bytes are the text of this map
pub record IsMapOfText (bytes : List ℕ) (map : MapValue) : Type 0 where
  pub draft : Draft
  pub comes : ComesTo most bytes true (Ok draft)
  pub complete : missing_fault (first_missing draft.nodes draft.ways) ≡ None
  pub is_map : IsMapOf draft map

-- the bytes are a text whose elements are no map, since a way goes through a node that isn't there
pub record LacksNode (bytes : List ℕ) (fault : MapError) : Type 0 where
  pub draft : Draft
  pub comes : ComesTo most bytes true (Ok draft)
  pub lacks : missing_fault (first_missing draft.nodes draft.ways) ≡ Some fault

-- the first fault of a beginning of a text
abbrev pub IsFaultOfBeginning : List ℕ → MapError → Type 0
IsFaultOfBeginning bytes fault = ComesTo most bytes false (Err fault)

-- the first fault of a text
abbrev pub IsFaultOfText : List ℕ → MapError → Type 0
IsFaultOfText bytes fault = ComesTo most bytes true (Err fault) ⊎ LacksNode bytes fault
