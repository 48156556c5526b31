-- The restrictions at each node.
use Rattle.std.specs.Prelude.{ℕ, ◌<◌, List, length, map, get_or}
use Rattle.overpass_graph.specs.declared.restriction.Restriction.{Restriction}

-- restrictions at so many nodes
pub record TurnTable : Type 0 where
  pub nodes : ℕ
  pub restrictions : List Restriction

-- the nodes of restrictions
abbrev pub vias_of : List Restriction → List ℕ
vias_of restrictions = map (λ (r : Restriction). r.via) restrictions

-- each restriction is at one of so many nodes
abbrev pub AreViasBelow : ℕ → List Restriction → Type 0
AreViasBelow nodes restrictions = (k : ℕ) → k < length (vias_of restrictions) →
    get_or (vias_of restrictions) k 0 < nodes
