use Rattle.std.proofs.Common.{subst}
use Rattle.item_list.specs.Turns.{Says}
use Rattle.map_guides.specs.Guides.{IsGuideMaking, IsGuideOf}
use Rattle.route_ready.specs.Fits.{HasSameTerms}
use Rattle.route_ready.specs.World.{world_of}
use Rattle.route_ready.specs.declared.ready.Ready.{Ready}
use Rattle.session_answers.proofs.GuideLemmas.{target-end, target-over}
use Rattle.session_answers.proofs.guides.Target.go_on.Goals as goal

pub go_on-requires : goal.go_on-requires
go_on-requires c = record {
  on = (
    c.args.self.ready.value.bound.value,
    target-over (world_of c.args.world.now) c.requires.on.0 c.args.self c.requires.on.1 c.map.result.now c.map.ensures.value,
  );
}

pub returns-in_ok-guided-in-Done : goal.returns-in_ok-guided-in-Done
returns-in_ok-guided-in-Done c =
    let world = world_of c.args.world.now in
    let map = c.map.result.now in
    let bound = c.args.self.ready.value.bound.value in
    record {
      steps = λ stored is.
          let over = target-over world stored c.args.self is map c.map.ensures.value in
          target-end world stored c.args.self is map c.map.ensures.value c.in-Done.guide c.in_ok-guided-in-Done.field-0.value
          (subst (Says (IsGuideMaking map bound) (IsGuideOf map bound)) c.in-Done.is (c.in_ok-making.ensures.steps bound over))
          (subst (λ (r : Ready). HasSameTerms r c.in_ok-guided-in-Done.field-0.value) c.deref.ensures c.in_ok-guided-in-Done.ensures.same)
          c.in_ok-guided-in-Done.ensures.guide;
    }
