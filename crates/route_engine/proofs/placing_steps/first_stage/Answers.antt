use Rattle.std.proofs.Common.{◌∙◌, ap, length, nat_eq, subst}
use Rattle.nogo_areas.specs.Cuttings.{IsCutting}
use Rattle.route_ready.specs.World.{world_of}
use Rattle.route_engine.proofs.placing_steps.first_stage.Goals as goal

pub returns-clause-stage : goal.returns-clause-stage
returns-clause-stage c =
    let roads = (world_of c.args.world.now).map in (
      subst (λ cs. IsCutting roads cs c.in_ok-cutting.cutting) c.as_slice-circles.ensures.value (c.in_ok-cutting.ensures.over roads),
      c.if-is_empty.ensures ∙ ap (λ cs. nat_eq (length cs) 0) c.as_slice-circles.ensures.value,
    )
