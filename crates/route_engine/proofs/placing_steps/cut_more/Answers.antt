use Rattle.std.proofs.Common.{◌≡◌, ◌-◌, length, arith, subst}
use Rattle.nogo_areas.specs.Cuttings.{IsCutting, judged}
use Rattle.route_ready.specs.World.{world_of}
use Rattle.route_engine.proofs.PlacingLemmas.{cutting-ends}
use Rattle.route_engine.proofs.placing_steps.cut_more.Goals as goal

pub returns-clause-on : goal.returns-clause-on
returns-clause-on c =
    let world = world_of c.args.world.now in
    let request = c.args.request.now in
    let over = subst (λ cs. IsCutting world.map cs c.more.new.self) c.as_slice.ensures.value
    (subst (λ m. IsCutting m c.as_slice.result.now c.more.new.self) c.map-2.ensures.value c.more.ensures.over) in
    cutting-ends world c.args.ready.now request c.args.budget c.args.cutting c.more.new.self c.left-left.result c.min-spent.result
    c.into_cut.result c.new.result c.requires.within.some c.requires.some c.requires.circles over c.in_ok-more.ensures.judged
    c.requires.over.within
    (subst (λ m. c.left-left.result ≡ length m.links - judged c.args.cutting) c.map.ensures.value c.left-left.ensures.value)
    c.min-spent.ensures (omega (arith, c.if-spent-left.false))
    (c.into_cut.ensures.exact world.map request.circles) c.new.ensures.items
