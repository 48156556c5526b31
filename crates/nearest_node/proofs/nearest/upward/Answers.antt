use Rattle.std.proofs.Common.{◌<◌, ◌≤◌, ◌*◌, ◌/◌, ◌-◌, ◌^◌, ◌∙◌, length, ap, sym, subst, arith}
use Rattle.geo_int.specs.Spot.{place_of}
use Rattle.overpass_graph.specs.Maps.{roads_of}
use Rattle.nearest_node.specs.Best.{rank_of}
use Rattle.nearest_node.specs.Nearest.{IsEnd, place_at}
use Rattle.nearest_node.proofs.BestLemmas.{key-is, first-stopped, first-more}
use Rattle.nearest_node.proofs.nearest.upward.Goals as goal

pub returns-then-north-best-clause-first : goal.returns-then-north-best-clause-first
returns-then-north-best-clause-first g c =
    let north = c.north.ensures.exact ∙ ap (λ n. n * 11132 / 100) (c.saturating_sub.ensures
    ∙ ap (λ n. n - c.args.at.ilat) c.latitude.ensures.exact) in
    first-stopped (length c.args.map.now.nodes) (place_at c.args.map.now)
    (IsEnd (roads_of c.args.map.now) (g.O.OpenLinks.opens c.args.passages.now).is_open)
    c.args.at c.args.keys.now c.args.start c.keys.place c.keys.best
    (record { few = omega (arith, c.requires.lawful.roads.few_nodes); index = c.requires.index })
    c.keys.invariant.best.most c.keys.invariant.first (subst (λ n. c.keys.best / 2 ^ 32 < n) north c.if-north-best.true)

pub better-best-requires-clause-in_range : goal.better-best-requires-clause-in_range
better-best-requires-clause-in_range g c =
    subst (λ n. n < length c.args.map.now.nodes) (sym c.number.ensures.exact)
    (key-is (length c.args.map.now.nodes) (place_at c.args.map.now) c.args.keys.now
    (record { few = omega (arith, c.requires.lawful.roads.few_nodes); index = c.requires.index })
    c.keys.place (omega (arith, c.keys-test.true))).number

pub keys-preserved : goal.keys-preserved
keys-preserved g c =
    let may = IsEnd (roads_of c.args.map.now) (g.O.OpenLinks.opens c.args.passages.now).is_open in
    record {
      best = c.better-best.ensures.best;
      better = omega (arith, c.better-best.ensures.better, c.keys.invariant.better);
      first = first-more (place_at c.args.map.now) may (place_of c.args.at) c.args.keys.now c.args.start c.keys.place c.keys.best
          c.better-best.result c.keys.invariant.first c.better-best.ensures.better
          (subst (λ n. may n → c.better-best.result ≤ rank_of (place_at c.args.map.now) (place_of c.args.at) n) c.number.ensures.exact
          c.better-best.ensures.first);
    }
