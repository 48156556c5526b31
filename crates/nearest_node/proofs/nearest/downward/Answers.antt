use Rattle.std.proofs.Common.{◌≡◌, ◌<◌, ◌≤◌, ◌+◌, ◌*◌, ◌/◌, ◌-◌, ◌^◌, ◌∙◌, length, ap, sym, subst, arith}
use Rattle.geo_int.specs.Spot.{place_of}
use Rattle.overpass_graph.specs.Maps.{roads_of}
use Rattle.nearest_node.specs.Best.{IsFirstOf, rank_of}
use Rattle.nearest_node.specs.Nearest.{IsEnd, place_at}
use Rattle.nearest_node.proofs.BestLemmas.{key-is, last-stopped, first-before}
use Rattle.nearest_node.proofs.nearest.downward.Goals as goal

pub returns-then-north-best-clause-first : goal.returns-then-north-best-clause-first
returns-then-north-best-clause-first g c =
    let may = IsEnd (roads_of c.args.map.now) (g.O.OpenLinks.opens c.args.passages.now).is_open in
    let north = c.north.ensures.exact ∙ ap (λ n. n * 11132 / 100) (c.saturating_sub.ensures
    ∙ ap (λ n. c.args.at.ilat - n) c.latitude.ensures.exact) in
    let back : c.keys.place ≡ c.keys.place - 1 + 1 = omega (arith, c.keys-test.true) in
    last-stopped (length c.args.map.now.nodes) (place_at c.args.map.now) may c.args.at c.args.keys.now c.args.start (c.keys.place - 1)
    c.keys.best
    (record { few = omega (arith, c.requires.lawful.roads.few_nodes); index = c.requires.index })
    c.keys.invariant.best.most (omega (arith, c.keys-test.true, c.keys.invariant.within, c.requires.within))
    (subst (λ n. IsFirstOf (place_at c.args.map.now) may (place_of c.args.at) c.args.keys.now n c.args.start c.keys.best) back
    c.keys.invariant.first)
    (subst (λ n. c.keys.best / 2 ^ 32 < n) north c.if-north-best.true)

pub better-best-requires-clause-in_range : goal.better-best-requires-clause-in_range
better-best-requires-clause-in_range g c =
    subst (λ n. n < length c.args.map.now.nodes) (sym c.number.ensures.exact)
    (key-is (length c.args.map.now.nodes) (place_at c.args.map.now) c.args.keys.now
    (record { few = omega (arith, c.requires.lawful.roads.few_nodes); index = c.requires.index })
    (c.keys.place - 1) (omega (arith, c.keys-test.true, c.keys.invariant.within, c.requires.within))).number

pub keys-preserved : goal.keys-preserved
keys-preserved g c =
    let may = IsEnd (roads_of c.args.map.now) (g.O.OpenLinks.opens c.args.passages.now).is_open in
    let back : c.keys.place ≡ c.keys.place - 1 + 1 = omega (arith, c.keys-test.true) in
    record {
      within = omega (arith, c.keys.invariant.within);
      best = c.better-best.ensures.best;
      better = omega (arith, c.better-best.ensures.better, c.keys.invariant.better);
      first = first-before (place_at c.args.map.now) may (place_of c.args.at) c.args.keys.now c.args.start (c.keys.place - 1) c.keys.best
          c.better-best.result
          (subst (λ n. IsFirstOf (place_at c.args.map.now) may (place_of c.args.at) c.args.keys.now n c.args.start c.keys.best) back
          c.keys.invariant.first)
          c.better-best.ensures.better
          (subst (λ n. may n → c.better-best.result ≤ rank_of (place_at c.args.map.now) (place_of c.args.at) n) c.number.ensures.exact
          c.better-best.ensures.first);
    }
