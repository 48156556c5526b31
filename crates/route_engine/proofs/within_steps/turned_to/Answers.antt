use Rattle.std.proofs.Common.{◌≡◌, ◌∙◌, ap, inr, length, refl, sym, subst, Err}
use Rattle.cost_table.specs.Reaches.{AnswersReach, cost_in}
use Rattle.item_list.specs.declared.turn.Turn.TheVariants.{More, Done}
use Rattle.overpass_graph.specs.Maps.{IsMap, MapValue}
use Rattle.route_engine.specs.Jobs.{plan_of}
use Rattle.route_engine.specs.Listings.{AreBelow, IsListing}
use Rattle.route_engine.specs.Nearby.{IsNearbyRefusal}
use Rattle.route_engine.specs.NearbyJobs.{TurnsNearby}
use Rattle.route_engine.specs.Sources.{quest_in}
use Rattle.route_engine.specs.declared.within.NextList.TheVariants.{Listed, Searching}
use Rattle.route_engine.specs.declared.within.WithinJob.{WithinJob}
use Rattle.route_engine.proofs.NearbyLemmas.{nearby-spent}
use Rattle.route_engine.proofs.NearbyStepLemmas.{listing-begins, told-below}
use Rattle.route_ready.specs.World.{world_of}
use Rattle.route_ready.specs.declared.error.RouteError.TheVariants.{Budget}
use Rattle.route_engine.proofs.within_steps.turned_to.Goals as goal

pub returns-in-More : goal.returns-in-More
returns-in-More c =
    let world = world_of c.args.world.now in
    let job : WithinJob = record { alloc = c.args.alloc; plan = c.args.plan; lists = c.args.lists; next = Searching c.args.source } in
    record { turns = subst (λ t. TurnsNearby world job t (More job)) (sym c.in-More.is) refl }

pub returns-in-Budget : goal.returns-in-Budget
returns-in-Budget c =
    let world = world_of c.args.world.now in
    let plan = plan_of world c.args.plan in
    let job : WithinJob = record { alloc = c.args.alloc; plan = c.args.plan; lists = c.args.lists; next = Searching c.args.source } in
    let quest = quest_in plan.setting.terrain c.args.source in
    let answers = subst (AnswersReach quest c.args.source.reach) c.in-Budget.is c.requires.answers in
    let here : c.len.result ≡ length c.args.lists.items = cc (c.args.lists.ok.0, c.len.ensures) in
    let refusal = nearby-spent plan plan.cost (length c.args.lists.items) quest c.requires.next.from c.requires.next.asks answers.0
    c.requires.next.there answers.1 in
    record {
      turns = subst (λ t. TurnsNearby world job t (Done (Err c.spent.result))) (sym c.in-Budget.is) (
        inr (subst (IsNearbyRefusal plan plan.cost) (sym c.spent.ensures.value)
            (subst (λ n. IsNearbyRefusal plan plan.cost (Budget n 0)) (sym here) refusal)),
        refl,
      );
    }

pub new-requires : goal.new-requires
new-requires c =
    let world = world_of c.args.world.now in
    let quest = quest_in (plan_of world c.args.plan).setting.terrain c.args.source in
    let answers = subst (AnswersReach quest c.args.source.reach) c.in-Done.is c.requires.answers in
    let lawful = subst IsMap c.map.ensures.value c.nodes.ensures.lawful in
    let many : c.nodes.result ≡ length world.map.nodes = c.nodes.ensures.value ∙ ap (λ (m : MapValue). length m.nodes) c.map.ensures.value in
    record {
      below = subst (λ n. AreBelow (cost_in c.args.source.reach) n) (sym many)
          (told-below world c.args.plan (length c.args.lists.items) c.args.source c.requires.on lawful c.requires.next answers.1);
    }

pub returns-in-Ok : goal.returns-in-Ok
returns-in-Ok c =
    let world = world_of c.args.world.now in
    let job : WithinJob = record { alloc = c.args.alloc; plan = c.args.plan; lists = c.args.lists; next = Searching c.args.source } in
    let after : WithinJob = record { alloc = c.args.alloc; plan = c.args.plan; lists = c.args.lists; next = Listed c.in-Ok.listing } in
    let quest = quest_in (plan_of world c.args.plan).setting.terrain c.args.source in
    let answers = subst (AnswersReach quest c.args.source.reach) c.in-Done.is c.requires.answers in
    let lawful = subst IsMap c.map.ensures.value c.nodes.ensures.lawful in
    let many : c.nodes.result ≡ length world.map.nodes = c.nodes.ensures.value ∙ ap (λ (m : MapValue). length m.nodes) c.map.ensures.value in
    let on = subst (λ n. IsListing n c.in-Ok.listing) many c.in-Ok.ensures.on in
    record {
      turns = subst (λ t. TurnsNearby world job t (More after)) (sym c.in-Done.is) (record {
        on = record {
          plan = c.requires.on;
          first = c.requires.first;
          next = listing-begins world c.args.plan (length c.args.lists.items) c.args.source c.requires.on lawful c.requires.next answers.1
              c.in-Ok.listing c.in-Ok.ensures.same on;
        };
        same = refl;
        lists_same = refl;
        listing = c.in-Ok.listing;
        next_is = refl;
        begins = c.in-Ok.ensures.begins;
      });
    }
