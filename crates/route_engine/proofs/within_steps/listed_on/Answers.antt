use Rattle.std.proofs.Common.{◌≡◌, ◌≤◌, ◌∙◌, ap, length, subst, arith}
use Rattle.overpass_graph.specs.Maps.{MapValue}
use Rattle.route_engine.specs.Listings.{ListsOn}
use Rattle.route_engine.proofs.NearbyStepLemmas.{lists-further, lists-unfound, lists-whole, more-unfound}
use Rattle.route_ready.specs.World.{world_of}
use Rattle.route_engine.proofs.within_steps.listed_on.Goals as goal

pub returns-then-listing-nodes : goal.returns-then-listing-nodes
returns-then-listing-nodes c =
    let world = world_of c.args.world.now in
    let many : c.nodes-nodes.result ≡ length world.map.nodes =
    c.nodes-nodes.ensures.value ∙ ap (λ (m : MapValue). length m.nodes) c.map.ensures.value in
    let whole : c.args.listing.node ≡ length world.map.nodes = omega (arith, many, c.if-listing-nodes.true) in
    record {
      steps = record {
        fits = omega arith;
        turn = lists-whole world c.args.alloc c.args.plan c.args.lists c.args.quota c.requires.on c.requires.first c.requires.some
            c.args.listing c.requires.next whole c.with_list.result c.with_list.ensures.more;
      };
      leaves = λ found ends.
          absurd (lists-unfound world c.args.alloc c.args.plan c.args.lists c.args.quota c.requires.on c.requires.first c.requires.some
          c.args.listing c.requires.next c.with_list.result c.with_list.ensures.more found ends);
    }

pub returns-in-Ok : goal.returns-in-Ok
returns-in-Ok c =
    let world = world_of c.args.world.now in
    let many : c.nodes-nodes.result ≡ length world.map.nodes =
    c.nodes-nodes.ensures.value ∙ ap (λ (m : MapValue). length m.nodes) c.map.ensures.value in
    let looked = c.in-Ok.field-0 in
    let lists = subst (λ n. ListsOn n looked.spent c.args.listing looked.listing) many c.in-Ok.ensures.lists in
    let few : looked.spent ≤ c.args.quota = omega (arith, c.in-Ok.ensures.fits, c.min.ensures) in
    record {
      steps = record {
        fits = few;
        turn = lists-further world c.args.alloc c.args.plan c.args.lists c.args.quota c.requires.on c.requires.first c.requires.some
            c.args.listing c.requires.next looked.spent looked.listing lists c.in-Ok.ensures.counts few;
      };
      leaves = λ found ends. absurd (more-unfound _ found ends);
    }
