use Rattle.std.proofs.Common.{◌≡◌, ◌++◌, ◌∷◌, [], ◌∙◌, ap, length, refl, arith}
use Rattle.route_engine.specs.Jobs.{plan_of}
use Rattle.route_engine.proofs.NearbyStepLemmas.{list-more}
use Rattle.route_ready.specs.World.{world_of}
use Rattle.route_engine.proofs.within_steps.with_list.Goals as goal

pub returns-in-Ok : goal.returns-in-Ok
returns-in-Ok c =
    let world = world_of c.args._world.now in
    let plan = plan_of world c.args.plan in
    let grown : c.push.new.self.items ≡ c.args.lists.items ++ c.args.listing.list ∷ [] =
    c.in-Ok.ensures.items ∙ ap (λ list. c.args.lists.items ++ list ∷ []) c.into_list.ensures.value in
    let more = list-more (length world.map.nodes) plan c.args.lists.items c.push.new.self.items c.args.listing c.requires.first
    c.requires.next c.requires.whole grown in
    let there = c.requires.next.there in
    record {
      more = record {
        on = record { plan = c.requires.on; first = more.1; next = omega (arith, more.0, there) };
        same = refl;
        counted = more.0;
        none = refl;
      };
    }
