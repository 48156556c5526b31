use Rattle.std.proofs.Common.{◌<◌, get_or, ℕ}
use Rattle.overpass_graph.specs.Maps.{roads_of}
use Rattle.overpass_graph.specs.Roads.{out_links}
use Rattle.nearest_node.proofs.EndLemmas.{IsOpenEitherWay}
use Rattle.nearest_node.proofs.ends.is_end.Given as goal

abbrev pub invariant-links : goal.invariant-links
invariant-links g l = (j : ℕ) → j < l.place →
    IsOpenEitherWay (g.O.OpenLinks.opens l.passages).is_open (get_or (out_links (roads_of l.map) l.node) j 0) → ⊥
