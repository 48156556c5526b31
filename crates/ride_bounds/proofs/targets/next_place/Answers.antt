use Rattle.std.proofs.Common.{ℕ, ◌<◌, List, length, get_or, sym, ap, ◌∙◌, subst, arith}
use Rattle.overpass_graph.specs.Maps.{roads_of}
use Rattle.overpass_graph.specs.Roads.{out_links, twin_of}
use Rattle.link_order.specs.Orders.{place_of}
use Rattle.ride_bounds.proofs.TargetLemmas.{back-in, next-end, next-more}
use Rattle.ride_bounds.proofs.targets.next_place.Goals as goal

pub place-requires : goal.place-requires
place-requires c =
    let leaving = c.out_links-leaving.ensures.value in
    let inside : c.links.number < length (out_links (roads_of c.args.map.now) c.args.target) =
    omega (arith, ap length leaving, c.links-test.true) in
    record {
      in_range =
          subst (λ n. n < length c.args.order.now.links)
          (sym (c.twin.ensures.value ∙ ap (λ (l : List ℕ). twin_of (get_or l c.links.number 0)) leaving))
          (back-in (roads_of c.args.map.now) c.args.order.now c.args.target c.links-links.ensures.lawful.roads c.len-places.ensures.lawful
          c.requires.counted c.args.from c.links.number inside);
    }

pub links-preserved : goal.links-preserved
links-preserved c =
    let leaving = c.out_links-leaving.ensures.value in
    let inside : c.links.number < length (out_links (roads_of c.args.map.now) c.args.target) =
    omega (arith, ap length leaving, c.links-test.true) in
    next-more (roads_of c.args.map.now) c.args.order.now c.args.target c.links-links.ensures.lawful.roads c.len-places.ensures.lawful
    c.requires.counted c.args.from c.links.number c.links.next c.lower-next.result c.place.result inside
    (c.place.ensures.value
    ∙ ap (place_of c.args.order.now)
    (c.twin.ensures.value ∙ ap (λ (l : List ℕ). twin_of (get_or l c.links.number 0)) leaving))
    c.lower-next.ensures.at_most c.lower-next.ensures.low c.lower-next.ensures.one c.links.invariant

pub returns : goal.returns
returns c =
    let leaving = c.out_links-leaving.ensures.value in
    record {
      value =
          next-end (roads_of c.args.map.now) c.args.order.now c.args.target c.links-links.ensures.lawful.roads c.len-places.ensures.lawful
          c.requires.counted c.args.from c.links.number c.links.next (omega (arith, ap length leaving, c.links-test.false))
          c.links.invariant;
    }
