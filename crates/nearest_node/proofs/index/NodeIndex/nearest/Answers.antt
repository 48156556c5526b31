use Rattle.std.proofs.Common.{length, subst, sym, arith, Some}
use Rattle.geo_int.specs.Spot.{place_of}
use Rattle.overpass_graph.specs.Maps.{roads_of}
use Rattle.nearest_node.specs.Best.{IsFirstOf}
use Rattle.nearest_node.specs.Nearest.{IsEnd, IsMovedTo, place_at}
use Rattle.nearest_node.proofs.BestLemmas.{first-both, moved-there, moved-none}
use Rattle.nearest_node.proofs.index.NodeIndex.nearest.Goals as goal

pub returns-then-best-lt-NO_RANK : goal.returns-then-best-lt-NO_RANK
returns-then-best-lt-NO_RANK g c =
    let places = place_at c.args.map.now in
    let may = IsEnd (roads_of c.args.map.now) (g.O.OpenLinks.opens c.args.passages.now).is_open in
    let at = place_of c.args.at in
    let keys = c.args.self.now.keys.items in
    let start = c.first_north_of-start.result in
    let best = c.downward-best.result in
    let behind = subst (λ ks. IsFirstOf places may at ks start (length ks) c.upward-best.result) c.as_slice-2.ensures.value
    c.upward-best.ensures.first in
    let before = subst (λ ks. IsFirstOf places may at ks 0 start best) c.as_slice-3.ensures.value c.downward-best.ensures.first in
    record {
      exact =
          subst (λ n. IsMovedTo (length c.args.map.now.nodes) places may at (Some n)) (sym c.number.ensures.exact)
          (moved-there (length c.args.map.now.nodes) places may at keys best
          (record { few = omega (arith, c.nodes.ensures.lawful.roads.few_nodes); index = c.requires.index })
          c.downward-best.ensures.best (first-both places may at keys start c.upward-best.result best behind before
          c.downward-best.ensures.better)
          c.if-best-lt-NO_RANK.true);
    }

pub returns-else-best-lt-NO_RANK : goal.returns-else-best-lt-NO_RANK
returns-else-best-lt-NO_RANK g c =
    let places = place_at c.args.map.now in
    let may = IsEnd (roads_of c.args.map.now) (g.O.OpenLinks.opens c.args.passages.now).is_open in
    let at = place_of c.args.at in
    let keys = c.args.self.now.keys.items in
    let start = c.first_north_of-start.result in
    let best = c.downward-best.result in
    let behind = subst (λ ks. IsFirstOf places may at ks start (length ks) c.upward-best.result) c.as_slice-2.ensures.value
    c.upward-best.ensures.first in
    let before = subst (λ ks. IsFirstOf places may at ks 0 start best) c.as_slice-3.ensures.value c.downward-best.ensures.first in
    record {
      exact =
          moved-none (length c.args.map.now.nodes) places may at keys best
          (record { few = omega (arith, c.nodes.ensures.lawful.roads.few_nodes); index = c.requires.index })
          (first-both places may at keys start c.upward-best.result best behind before c.downward-best.ensures.better)
          c.if-best-lt-NO_RANK.false;
    }
