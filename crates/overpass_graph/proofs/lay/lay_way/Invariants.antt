use Rattle.std.proofs.Common.{◌≡◌, ◌-◌, ◌<◌, ◌++◌, length, drop, get_or, pos, Some}
use Rattle.map_tables.specs.Kept.{place_of_id}
use Rattle.overpass_graph.specs.Laying.{links_left}
use Rattle.overpass_graph.specs.Links.{missing_in, links_of_way}
use Rattle.overpass_graph.specs.Maps.{way_at}
use Rattle.overpass_graph.specs.Orders.{picked}
use Rattle.overpass_graph.specs.Pairs.{IsSoundLaid, links_now}
use Rattle.overpass_graph.proofs.lay.lay_way.Given as goal

abbrev pub invariant-ids : goal.invariant-ids
invariant-ids l = let ids = (way_at l.tables.draft.ways l.way).content in
    let sorted = picked l.tables.draft.nodes l.order.places.items in
    record {
      none : missing_in l.tables.draft.nodes (drop l.place ids) ≡ missing_in l.tables.draft.nodes ids;
      last : 0 < l.place → place_of_id (get_or ids (l.place - 1) (pos 0)) l.tables.draft.nodes ≡ Some l.last;
      sound : IsSoundLaid (length l.tables.draft.nodes) l.laid;
      links : links_now l.laid ++ links_left sorted l.way ids l.place ≡ links_now l.fn.laid ++ links_of_way sorted l.way ids;
    }
