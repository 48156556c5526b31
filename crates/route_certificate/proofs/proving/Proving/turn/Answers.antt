use Rattle.std.proofs.Common.{◌<◌, subst, arith}
use Rattle.item_list.specs.Turns.{Says}
use Rattle.route_certificate.specs.Certified.{IsShown, IsWritable}
use Rattle.route_certificate.specs.Provings.{IsProvingFor, ProvesOn}
use Rattle.route_certificate.proofs.ProvingLemmas.{steps-few}
use Rattle.route_certificate.proofs.proving.Proving.turn.Goals as goal

pub overflow_sub-left : goal.overflow_sub-left
overflow_sub-left g c =
    let on = c.steps.invariant.some_on in
    let steps = c.in_ok-counted.ensures.steps on.0 on.1 on.2 on.3 in
    steps-few c.steps.left c.in_ok-counted.field-0.counted c.steps.proving c.in_ok-counted.field-0.turn steps.goes

pub overflow_cast-left : goal.overflow_cast-left
overflow_cast-left g c =
    let on = c.steps.invariant.some_on in
    let steps = c.in_ok-counted.ensures.steps on.0 on.1 on.2 on.3 in
    let few = steps-few c.steps.left c.in_ok-counted.field-0.counted c.steps.proving c.in_ok-counted.field-0.turn steps.goes in
    omega (arith, few, c.steps.auto.left-fits)

pub returns-in-Done : goal.returns-in-Done
returns-in-Done g c = record {
  turns = λ bound leg limit is.
      let terrain = g.G.TerrainOf.terrain c.args.terrain in
      let counted = c.in_ok-counted.field-0.counted in
      let inv = c.steps.invariant in
      let steps = c.in_ok-counted.ensures.steps bound leg limit (inv.on bound leg limit is) in
      let fewer = subst (Says (ProvesOn c.steps.left counted c.steps.proving) (λ _. counted < c.steps.left)) c.in-Done.is steps.goes in
      record {
        answers = subst (Says (IsProvingFor terrain bound leg limit) (IsShown bound leg limit)) c.in-Done.is steps.answers;
        fits = subst (Says (λ _. Unit {0}) (IsWritable terrain.map)) c.in-Done.is steps.fits;
        settles = omega (arith, fewer, inv.few);
        next = tt;
        within = let within = steps.within in omega (arith, fewer, inv.few, inv.counted, within);
      };
}

pub returns-then-left-eq0 : goal.returns-then-left-eq0
returns-then-left-eq0 g c = record {
  turns = λ bound leg limit is.
      let terrain = g.G.TerrainOf.terrain c.args.terrain in
      let counted = c.in_ok-counted.field-0.counted in
      let inv = c.steps.invariant in
      let steps = c.in_ok-counted.ensures.steps bound leg limit (inv.on bound leg limit is) in
      let goes = subst (Says (ProvesOn c.steps.left counted c.steps.proving) (λ _. counted < c.steps.left)) c.in-More.is steps.goes in
      let none = c.if-left-eq0.true in
      record {
        answers = subst (Says (IsProvingFor terrain bound leg limit) (IsShown bound leg limit)) c.in-More.is steps.answers;
        fits = tt;
        settles = omega (arith, none, goes.fits, inv.few);
        next = omega (arith, none, goes.fits, goes.next, inv.few, inv.counted);
        within = let within = steps.within in omega (arith, none, goes.fits, inv.few, inv.counted, within);
      };
}

pub steps-smaller : goal.steps-smaller
steps-smaller g c =
    let counted = c.in_ok-counted.field-0.counted in
    let on = c.steps.invariant.some_on in
    let steps = c.in_ok-counted.ensures.steps on.0 on.1 on.2 on.3 in
    let goes = subst (Says (ProvesOn c.steps.left counted c.steps.proving) (λ _. counted < c.steps.left)) c.in-More.is steps.goes in
    omega (arith, goes.nearer, goes.fits)

pub steps-preserved : goal.steps-preserved
steps-preserved g c =
    let terrain = g.G.TerrainOf.terrain c.args.terrain in
    let counted = c.in_ok-counted.field-0.counted in
    let inv = c.steps.invariant in
    let on = inv.some_on in
    let first = c.in_ok-counted.ensures.steps on.0 on.1 on.2 on.3 in
    let goes = subst (Says (ProvesOn c.steps.left counted c.steps.proving) (λ _. counted < c.steps.left)) c.in-More.is first.goes in
    record {
      some_on = (
        on.0,
        on.1,
        on.2,
        subst (Says (IsProvingFor terrain on.0 on.1 on.2) (IsShown on.0 on.1 on.2)) c.in-More.is first.answers,
      );
      on = λ bound leg limit is.
          let steps = c.in_ok-counted.ensures.steps bound leg limit (inv.on bound leg limit is) in
          subst (Says (IsProvingFor terrain bound leg limit) (IsShown bound leg limit)) c.in-More.is steps.answers;
      some = omega (arith, c.if-left-eq0.false, goes.fits);
      counted = omega (arith, goes.next, goes.fits, inv.counted);
      few = omega (arith, inv.few);
    }
