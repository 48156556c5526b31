-- What an element in memory stands for.
use Rattle.std.specs.Prelude.{ℕ, Option, Some, None, Result, Ok, Err}
use Rattle.geo_int.specs.Spot.{place_of}
use Rattle.map_tables.specs.declared.error.MapError.{MapError}
use Rattle.map_tables.specs.declared.error.MapError.TheVariants.{Shape}
use Rattle.map_elements.specs.declared.elements.Element.{Element as Kind}
use Rattle.map_elements.specs.declared.elements.Element.TheVariants as element_
use Rattle.map_elements.specs.Elements.{Element}

-- the element that it stands for
abbrev pub seen : Kind → Element
seen (element_.Node id spot tags) = Element.Node (record { id = id; content = place_of spot; tags = tags })
seen (element_.Way id nodes tags) = Element.Way (record { id = id; content = nodes; tags = tags })
seen (element_.Relation id members tags) =
    Element.Relation (record { id = id; content = members; tags = tags })
seen element_.Other = Element.Other

-- what is there; otherwise the element at this place has the wrong shape
abbrev pub needed : {A : Type 0} → ℕ → Option A → Result A MapError
needed at None = Err (Shape at)
needed at (Some a) = Ok a
