use Rattle.std.proofs.Common.{◌≡◌, ◌++◌, length, drop}
use Rattle.overpass_graph.specs.Links.{first_missing, links_from}
use Rattle.overpass_graph.specs.Orders.{picked}
use Rattle.overpass_graph.specs.Pairs.{IsSoundLaid, links_now}
use Rattle.overpass_graph.proofs.lay.lay.Given as goal

abbrev pub invariant-ways : goal.invariant-ways
invariant-ways l = record {
  none : first_missing l.tables.draft.nodes (drop l.way l.tables.draft.ways) ≡ first_missing l.tables.draft.nodes l.tables.draft.ways;
  sound : IsSoundLaid (length l.tables.draft.nodes) l.laid;
  links : links_now l.laid ++ links_from (picked l.tables.draft.nodes l.order.places.items) l.way (drop l.way l.tables.draft.ways)
      ≡ links_from (picked l.tables.draft.nodes l.order.places.items) 0 l.tables.draft.ways;
}
