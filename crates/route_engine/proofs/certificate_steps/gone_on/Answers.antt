use Rattle.std.proofs.Common.{◌≡◌, ◌+◌, length, refl, sym, subst, arith}
use Rattle.certificate_text.specs.declared.certificate.LowerBound.TheVariants.{Least}
use Rattle.cost_model.specs.Rides.{Terrain}
use Rattle.item_list.specs.Turns.{Says, Settles}
use Rattle.route_certificate.specs.Certified.{IsShown, IsWritable}
use Rattle.route_certificate.specs.Provings.{IsProvingFor, TurnsProving, counted_of}
use Rattle.route_engine.specs.CertificateJobs.{leg_most, legs_left}
use Rattle.route_engine.specs.Jobs.{plan_of}
use Rattle.route_engine.specs.Labels.{beginning}
use Rattle.route_engine.specs.Plans.{nth_leg}
use Rattle.route_engine.proofs.CertificateLemmas.{before, leg-counted, leg-ended}
use Rattle.route_ready.specs.World.{world_of}
use Rattle.way_class.specs.Links.{links_of}
use Rattle.route_engine.proofs.certificate_steps.gone_on.Goals as goal

pub turn-turned-requires-clause-on : goal.turn-turned-requires-clause-on
turn-turned-requires-clause-on c =
    let plan = plan_of (world_of c.args.world.now) c.args.plan in
    let leg = nth_leg plan (length c.args.legs.items) in (
      Least,
      leg,
      plan.limit,
      subst (λ (t : Terrain). IsProvingFor t Least leg plan.limit c.args.proving) (sym c.terrain.ensures.exact) c.requires.next.on,
    )

pub ended-requires-clause-shown : goal.ended-requires-clause-shown
ended-requires-clause-shown c =
    let plan = plan_of (world_of c.args.world.now) c.args.plan in
    let its = c.terrain.result in
    let seen : Terrain = record { map = its.map.now; links = links_of its.facts.now; prices = its.rates.now } in
    let leg = nth_leg plan (length c.args.legs.items) in
    let on = subst (λ (t : Terrain). IsProvingFor t Least leg plan.limit c.args.proving) (sym c.terrain.ensures.exact)
    c.requires.next.on in
    subst (Says (IsProvingFor seen Least leg plan.limit) (IsShown Least leg plan.limit)) c.in-Done.is
    (c.in-Ok.ensures.turns Least leg plan.limit on).answers

pub ended-requires-clause-fits : goal.ended-requires-clause-fits
ended-requires-clause-fits c =
    let plan = plan_of (world_of c.args.world.now) c.args.plan in
    let leg = nth_leg plan (length c.args.legs.items) in
    let on = subst (λ (t : Terrain). IsProvingFor t Least leg plan.limit c.args.proving) (sym c.terrain.ensures.exact)
    c.requires.next.on in
    let turned = subst
    (λ (t : Terrain). TurnsProving t Least leg plan.limit c.args.quota (counted_of c.args.proving) c.in-Ok.field-0)
    c.terrain.ensures.exact (c.in-Ok.ensures.turns Least leg plan.limit on) in
    subst (Says (λ _. Unit {0}) (IsWritable plan.setting.terrain.map)) c.in-Done.is turned.fits

pub overflow_cast-result : goal.overflow_cast-result
overflow_cast-result c =
    let plan = plan_of (world_of c.args.world.now) c.args.plan in
    let leg = nth_leg plan (length c.args.legs.items) in
    let on = subst (λ (t : Terrain). IsProvingFor t Least leg plan.limit c.args.proving) (sym c.terrain.ensures.exact)
    c.requires.next.on in
    let turned = subst
    (λ (t : Terrain). TurnsProving t Least leg plan.limit c.args.quota (counted_of c.args.proving) c.in-Ok.field-0)
    c.terrain.ensures.exact (c.in-Ok.ensures.turns Least leg plan.limit on) in
    let counted = c.in-Ok.field-0.counted in
    let whole = subst (Settles c.args.quota counted) c.in-More.is turned.settles in
    omega (arith, whole, c.ranges.quota.fits)

pub overflow_cast-result-in-Done : goal.overflow_cast-result-in-Done
overflow_cast-result-in-Done c =
    let plan = plan_of (world_of c.args.world.now) c.args.plan in
    let leg = nth_leg plan (length c.args.legs.items) in
    let on = subst (λ (t : Terrain). IsProvingFor t Least leg plan.limit c.args.proving) (sym c.terrain.ensures.exact)
    c.requires.next.on in
    let turned = subst
    (λ (t : Terrain). TurnsProving t Least leg plan.limit c.args.quota (counted_of c.args.proving) c.in-Ok.field-0)
    c.terrain.ensures.exact (c.in-Ok.ensures.turns Least leg plan.limit on) in
    let counted = c.in-Ok.field-0.counted in
    let fewer = subst (Settles c.args.quota counted) c.in-Done.is turned.settles in
    omega (arith, fewer, c.ranges.quota.fits)

pub returns-in-More : goal.returns-in-More
returns-in-More c =
    let world = world_of c.args.world.now in
    let plan = plan_of world c.args.plan in
    let leg = nth_leg plan (length c.args.legs.items) in
    let on = subst (λ (t : Terrain). IsProvingFor t Least leg plan.limit c.args.proving) (sym c.terrain.ensures.exact)
    c.requires.next.on in
    let turned = subst
    (λ (t : Terrain). TurnsProving t Least leg plan.limit c.args.quota (counted_of c.args.proving) c.in-Ok.field-0)
    c.terrain.ensures.exact (c.in-Ok.ensures.turns Least leg plan.limit on) in
    let counted = c.in-Ok.field-0.counted in
    let whole = subst (Settles c.args.quota counted) c.in-More.is turned.settles in
    let next = subst (Says (λ p. counted_of p ≡ counted_of c.args.proving + counted) (λ _. Unit {0})) c.in-More.is turned.next in
    let left = legs_left world (before world c.args.alloc c.args.plan c.args.legs c.args.proving) in
    let less = leg-counted left (leg_most plan) (beginning + counted_of c.args.proving) counted
    (omega (arith, c.requires.next.there)) (omega (arith, turned.within)) in
    record {
      steps = record {
        fits = omega (arith, whole);
        turn = record {
          on = record {
            plan = c.requires.on;
            first = c.requires.first;
            next = record {
              there = c.requires.next.there;
              on = subst (Says (IsProvingFor plan.setting.terrain Least leg plan.limit) (IsShown Least leg plan.limit)) c.in-More.is
                  turned.answers;
              within = omega (arith, next, turned.within);
            };
          };
          same = refl;
          less = omega (arith, less, next);
          nearer = omega (arith, whole, c.requires.some);
        };
      };
    }

pub returns-in-Done : goal.returns-in-Done
returns-in-Done c =
    let world = world_of c.args.world.now in
    let plan = plan_of world c.args.plan in
    let leg = nth_leg plan (length c.args.legs.items) in
    let on = subst (λ (t : Terrain). IsProvingFor t Least leg plan.limit c.args.proving) (sym c.terrain.ensures.exact)
    c.requires.next.on in
    let turned = subst
    (λ (t : Terrain). TurnsProving t Least leg plan.limit c.args.quota (counted_of c.args.proving) c.in-Ok.field-0)
    c.terrain.ensures.exact (c.in-Ok.ensures.turns Least leg plan.limit on) in
    let counted = c.in-Ok.field-0.counted in
    let fewer = subst (Settles c.args.quota counted) c.in-Done.is turned.settles in
    record {
      steps = record {
        fits = omega (arith, fewer);
        turn = leg-ended world c.args.alloc c.args.plan c.args.legs c.args.proving c.args.quota counted c.ended.result
            c.requires.next.there fewer turned.within c.ended.ensures.ends;
      };
    }
