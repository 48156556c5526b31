use Rattle.std.proofs.Common.{◌≡◌, ◌∙◌, inr, ap, length, refl, sym, subst, arith}
use Rattle.std.proofs.lemmas.List.{length_push}
use Rattle.certificate_text.specs.declared.certificate.LowerBound.TheVariants.{Least}
use Rattle.route_certificate.specs.Certified.{IsShown, IsWritable}
use Rattle.route_engine.specs.Certificates.{IsCertificateRefusal, no_track, spent}
use Rattle.route_engine.specs.Jobs.{plan_of}
use Rattle.route_engine.specs.Plans.{nth_leg}
use Rattle.route_engine.proofs.CertificateLemmas.{proofs-more, proofs-walk}
use Rattle.route_ready.specs.World.{world_of}
use Rattle.route_ready.specs.declared.error.RouteError.TheVariants.{Budget, NoTrack}
use Rattle.route_engine.proofs.certificate_steps.ended.Goals as goal

pub returns-in-Ok : goal.returns-in-Ok
returns-in-Ok c =
    let plan = plan_of (world_of c.args._world.now) c.args.plan in
    let legs = c.args.legs.items in
    let proof = c.in-Found.proof in
    let shown = subst (IsShown Least (nth_leg plan (length legs)) plan.limit) c.in-Found.is c.requires.shown in
    let fits = subst (IsWritable plan.setting.terrain.map) c.in-Found.is c.requires.fits in
    let grown = c.in-Ok.ensures.items in
    let counted = ap length grown ∙ length_push legs proof in
    record {
      ends = record {
        on = record {
          plan = c.requires.on;
          first = proofs-more plan legs c.push.new.self.items proof c.requires.first shown fits grown;
          next = omega (arith, counted, c.requires.there);
        };
        same = refl;
        counted = omega (arith, counted);
        none = refl;
      };
    }

pub returns-in-NoWay : goal.returns-in-NoWay
returns-in-NoWay c =
    let plan = plan_of (world_of c.args._world.now) c.args.plan in
    let legs = c.args.legs.items in
    let here : c.len-leg.result ≡ length legs = cc (c.args.legs.ok.0, c.len-leg.ensures) in
    record {
      ends = inr (subst (λ n. IsCertificateRefusal plan (NoTrack n)) (sym here)
          (no_track (record {
            within = c.requires.there;
            before = proofs-walk plan legs c.requires.first;
            none = subst (IsShown Least (nth_leg plan (length legs)) plan.limit) c.in-NoWay.is c.requires.shown;
          })));
    }

pub returns-in-Budget : goal.returns-in-Budget
returns-in-Budget c =
    let plan = plan_of (world_of c.args._world.now) c.args.plan in
    let legs = c.args.legs.items in
    let here : c.len-leg.result ≡ length legs = cc (c.args.legs.ok.0, c.len-leg.ensures) in
    record {
      ends = inr (subst (λ n. IsCertificateRefusal plan (Budget n 0)) (sym here)
          (spent (record {
            within = c.requires.there;
            before = proofs-walk plan legs c.requires.first;
            evidence = subst (IsShown Least (nth_leg plan (length legs)) plan.limit) c.in-Budget.is c.requires.shown;
          })));
    }
