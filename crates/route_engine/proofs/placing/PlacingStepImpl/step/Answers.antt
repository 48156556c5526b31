use Rattle.std.proofs.Common.{◌≡◌, IfOk, MatchResult, subst, sym, arith}
use Rattle.route_ready.specs.World.{world_of}
use Rattle.route_ready.specs.declared.error.RouteError.TheVariants.{NoMemory}
use Rattle.route_engine.specs.Placings.{IsPlacingStage, IsPlanWith, PlacesOn}
use Rattle.route_engine.proofs.PlacingLemmas.{planned, steps-on, wants-memory}
use Rattle.route_engine.proofs.placing.PlacingStepImpl.step.Goals as goal

pub returns-in-Cutting : goal.returns-in-Cutting
returns-in-Cutting c =
    let world = world_of c.args.dataset.now in
    record {
      steps = steps-on world c.args.budget c.args.self c.deref.result.now c.deref-in-Cutting.result.now c.cut_more-next.result c.stepped.result
          c.deref.ensures c.deref-in-Cutting.ensures c.requires.over
          (subst (λ s. IfOk c.cut_more-next.result (PlacesOn world c.deref.result.now c.deref-in-Cutting.result.now c.args.budget s))
          (sym c.in-Cutting.is) c.cut_more-next.ensures.on)
          (wants-memory c.cut_more-next.result _ c.cut_more-next.ensures.cause) c.stepped.ensures.exact;
    }

pub returns-in-Moving : goal.returns-in-Moving
returns-in-Moving c =
    let world = world_of c.args.dataset.now in
    record {
      steps = steps-on world c.args.budget c.args.self c.deref-in-Moving.result.now c.deref-in-Moving-2.result.now c.move_next-next.result c.stepped-in-Moving.result
          c.deref-in-Moving.ensures c.deref-in-Moving-2.ensures c.requires.over
          (subst (λ s. IfOk c.move_next-next.result (PlacesOn world c.deref-in-Moving.result.now c.deref-in-Moving-2.result.now c.args.budget s))
          (sym c.in-Moving.is) c.move_next-next.ensures.on)
          c.move_next-next.ensures.cause c.stepped-in-Moving.ensures.exact;
    }

pub returns-in-Placed : goal.returns-in-Placed
returns-in-Placed c =
    let world = world_of c.args.dataset.now in
    let ready = c.args.self.ready.value in
    let request = c.args.self.request.value in
    let cut = c.in-Placed.cut in
    let nodes = c.in-Placed.nodes in
    let stage = subst (IsPlacingStage world ready request) c.in-Placed.is c.requires.over.stage in
    let given = subst (λ q. MatchResult c.plan_with.result (IsPlanWith ready q cut.items nodes.items) (λ e. e ≡ NoMemory))
    c.deref-in-Placed.ensures c.plan_with.ensures.exact in
    record {
      steps = record {
        fits = omega arith;
        turn = planned world ready request c.plan_with.result cut.items nodes.items c.requires.over.fits c.requires.over.within
            stage.0 stage.1 given;
      };
    }
