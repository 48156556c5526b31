-- The map that is made of its parts.
use Rattle.std.proofs.Common.{◌≡◌, ℕ, ℤ, ◌<◌, ◌^◌, Bool, true, false, List, [], ◌∷◌, length, Option, Some, None, refl, sym, ap, ◌∙◌, subst, suc}
use Rattle.std.specs.Prelude.{if◌then◌else◌}
use Rattle.std.specs.Str.{bytes_eq}
use lib.Chars.{codes}
use Rattle.map_tables.specs.Draft.{Draft, segments_in}
use Rattle.map_tables.specs.Kept.{Kept, Tag, AreDistinct, AreDifferent}
use Rattle.map_tables.specs.declared.member.Member.{Member}
use Rattle.overpass_graph.specs.Made.{IsMade, map_value}
use Rattle.overpass_graph.specs.Making.{AreLinksFor, AreTurnsFor}
use Rattle.overpass_graph.specs.Maps.{IsMapOf, AreIds, HasNames}
use Rattle.overpass_graph.specs.Members.{KeptWay}
use Rattle.overpass_graph.specs.Orders.{IsNodeOrder, picked}
use Rattle.overpass_graph.specs.Pairs.{Net}
use Rattle.overpass_graph.specs.RouteTags.{tag_members, tag_of_route, tag_with_id, with_route, with_routes}
use Rattle.overpass_graph.specs.Turns.{TurnTable}
use Rattle.overpass_graph.proofs.LawfulLemmas.{lawful}
use Rattle.overpass_graph.proofs.NameLemmas.{ids-same, routes-ids}
use Rattle.overpass_graph.proofs.NodeLemmas.{picked-ascending, picked-same}
use Rattle.overpass_graph.proofs.WeightLemmas.{laid-in_order}

-- ---- Tags don't change how many ways there are

tagged-length : (id : ℤ) (tag : Tag) (ways : List KeptWay) → length (tag_with_id id tag ways) ≡ length ways
tagged-length id tag [] = refl
tagged-length id tag (w ∷ ws) = ap suc (tagged-length id tag ws)

members-length : (tag : Tag) (members : List Member) (ways : List KeptWay) → length (tag_members tag members ways) ≡ length ways
members-length tag [] ways = refl
members-length tag (m ∷ ms) ways =
    members-length tag ms (if bytes_eq m.kind (codes "way") then tag_with_id m.reference tag ways else ways)
    ∙ by_kind (bytes_eq m.kind (codes "way"))
  where
    by_kind : (b : Bool) → length (if b then tag_with_id m.reference tag ways else ways) ≡ length ways
    by_kind true = tagged-length m.reference tag ways
    by_kind false = refl

route-length : (o : Option Tag) (members : List Member) (ways : List KeptWay) → length (with_route o members ways) ≡ length ways
route-length None members ways = refl
route-length (Some tag) members ways = members-length tag members ways

routes-length : (relations : List (Kept (List Member))) (ways : List KeptWay) → length (with_routes relations ways) ≡ length ways
routes-length [] ways = refl
routes-length (r ∷ rs) ways =
    routes-length rs (with_route (tag_of_route r.tags) r.content ways) ∙ route-length (tag_of_route r.tags) r.content ways

-- ---- The map

module _ (draft : Draft) (places numbers : List ℕ) (net : Net) (turns : TurnTable)
    (order : IsNodeOrder draft.nodes places numbers) (links : AreLinksFor draft places numbers net) (at :
    AreTurnsFor draft places turns) where
  -- the names of links differ
  named : AreDistinct draft.ways → AreIds draft.ways → segments_in draft.ways < 2 ^ 32 →
      HasNames (map_value draft.nodes (with_routes draft.relations draft.ways) places net turns)
  named distinct ids few =
      let laid = laid-in_order (picked draft.nodes places) draft.ways net.links links.fitting.laid few in
      let same = routes-ids draft.relations draft.ways in
      record {
        rising = laid.rising;
        segment_fits = laid.small;
        way_ids = subst AreDifferent (sym same) distinct;
        id_fits = ids-same draft.ways (with_routes draft.relations draft.ways) same ids;
      }

  -- the parts fit
  pub made : AreDistinct draft.nodes → AreDistinct draft.ways → AreIds draft.ways → segments_in draft.ways < 2 ^ 32 →
      IsMade draft.nodes (with_routes draft.relations draft.ways) places numbers net turns
  made distinct ways ids few = record {
    distinct = distinct;
    order = order;
    net_nodes = links.nodes;
    turn_nodes = at.nodes;
    lawful = lawful draft.nodes (with_routes draft.relations draft.ways) draft.ways places numbers net turns links.ends links.pieces
        (record {
          order = links.fitting.order;
          few_nodes = links.fitting.few_nodes;
          few_links = links.fitting.few_links;
          laid = links.fitting.laid;
          same_ways = routes-length draft.relations draft.ways;
          paired = links.fitting.paired;
          even = links.fitting.even;
          below = links.fitting.below;
        })
        (named ways ids few);
  }

  -- they are the map of the draft
  pub is_map : IsMapOf draft (map_value draft.nodes (with_routes draft.relations draft.ways) places net turns)
  is_map = record {
    same_nodes = picked-same draft.nodes places numbers order;
    ascending = picked-ascending draft.nodes places numbers order;
    ways = refl;
    links = links.fitting.laid;
    restrictions = at.restrictions;
  }
