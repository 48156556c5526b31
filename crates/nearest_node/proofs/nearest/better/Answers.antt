use Rattle.std.proofs.Common.{◌*◌, ◌+◌, ◌^◌, ◌∙◌, ap, sym, refl, arith, length}
use Rattle.std.proofs.lemmas.Bool.{true≢false}
use Rattle.geo_int.specs.Place.{Place}
use Rattle.geo_int.specs.Arrow.{length_between}
use Rattle.geo_int.specs.Spot.{place_of}
use Rattle.overpass_graph.specs.Maps.{roads_of}
use Rattle.nearest_node.specs.Best.{held_length}
use Rattle.nearest_node.specs.Nearest.{IsEnd, place_at}
use Rattle.nearest_node.proofs.RankLemmas.{ranked-better, ranked-least}
use Rattle.nearest_node.proofs.nearest.better.Goals as goal
use Rattle.nearest_node.proofs.nearest.better.Goals.{else-found-best-via-then-found-best+else-is_end, else-found-best-via-else-found-best}

pub returns-then-is_end-clause-best : goal.returns-then-is_end-clause-best
returns-then-is_end-clause-best g c =
    let is = c.rank-found.ensures.exact
    ∙ ap (λ (p : Place). held_length (length_between (place_of c.args.at) p) * 2 ^ 32 + c.args.node) c.node_spot.ensures.value in
    ranked-better (length c.args.map.now.nodes) (place_at c.args.map.now)
    (IsEnd (roads_of c.args.map.now) (g.O.OpenLinks.opens c.args.passages.now).is_open)
    (place_of c.args.at) c.args.node c.rank-found.result c.args.best (omega (arith, c.requires.lawful.roads.few_nodes))
    c.requires.in_range (c.if-is_end.ensures.found refl) c.requires.best is (omega (arith, c.if-found-best.true))

pub returns-then-is_end-clause-first : goal.returns-then-is_end-clause-first
returns-then-is_end-clause-first g c at =
    let is = c.rank-found.ensures.exact
    ∙ ap (λ (p : Place). held_length (length_between (place_of c.args.at) p) * 2 ^ 32 + c.args.node) c.node_spot.ensures.value in
    ranked-least (place_at c.args.map.now) (place_of c.args.at) c.args.node c.rank-found.result is

pub returns-else-found-best-clause-first : goal.returns-else-found-best-clause-first
returns-else-found-best-clause-first g c at =
    let is = c.rank-found.ensures.exact
    ∙ ap (λ (p : Place). held_length (length_between (place_of c.args.at) p) * 2 ^ 32 + c.args.node) c.node_spot.ensures.value in
    let least = ranked-least (place_at c.args.map.now) (place_of c.args.at) c.args.node c.rank-found.result is in
    elim c.else-found-best.branch [
      | else-found-best-via-then-found-best+else-is_end w ↦ absurd (true≢false (sym (w.is_end.ensures.only at) ∙ w.if-is_end.false))
      | else-found-best-via-else-found-best w ↦ omega (arith, least, w.if-found-best)
    ]
