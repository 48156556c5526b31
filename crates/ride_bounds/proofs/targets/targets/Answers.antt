use Rattle.std.proofs.Common.{◌<◌, length, sym, ◌∙◌, arith}
use Rattle.overpass_graph.specs.Maps.{roads_of}
use Rattle.link_order.specs.Orders.{link_at}
use Rattle.ride_bounds.proofs.TargetLemmas.{places-none, targets-end, targets-more}
use Rattle.ride_bounds.proofs.targets.targets.Goals as goal

pub targets-init : goal.targets-init
targets-init c = record {
  made = c.new-made.ensures.items
      ∙ sym (places-none (λ place. (roads_of c.args.map.now).to (link_at c.args.order.now place)) c.args.target);
  within = omega arith;
  next = c.next_place-next.ensures.value;
}

pub targets-preserved : goal.targets-preserved
targets-preserved c =
    let inside : c.targets.next < length c.args.map.now.links = omega (arith, c.targets-test.true, c.links-links.ensures.value) in
    record {
      made = c.in_ok-push.ensures.items
          ∙ targets-more (roads_of c.args.map.now) c.args.order.now c.args.target c.targets.made.items c.targets.from c.targets.next
          c.targets.invariant.made c.targets.invariant.next inside c.links-links.ensures.lawful.roads.few_links;
      within = omega (arith, inside);
      next = c.next_place-next-in-targets.ensures.value;
    }

pub returns : goal.returns
returns c = record {
  value = targets-end (roads_of c.args.map.now) c.args.order.now c.args.target c.targets.made.items c.targets.from c.targets.next
      c.targets.invariant.made c.targets.invariant.next c.targets.invariant.within
      (omega (arith, c.targets-test.false, c.links-links.ensures.value));
}
