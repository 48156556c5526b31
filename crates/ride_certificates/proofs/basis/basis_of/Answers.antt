use Rattle.std.proofs.Common.{refl}
use Rattle.profile_text.specs.Expr.{sections_in}
use Rattle.route_engine.specs.Replies.{question_of}
use Rattle.route_http.specs.Seen.{asked}
use Rattle.route_ready.specs.World.{world_of}
use Rattle.ride_certificates.proofs.BasisLemmas.{profile-refusal, ready-basis}
use Rattle.ride_certificates.proofs.basis.basis_of.Goals as goal

pub returns-in-Ok : goal.returns-in-Ok
returns-in-Ok c =
    let world = world_of c.args.world.now in
    let question = question_of world (sections_in c.args.profile.now) (asked c.args.request.now) in
    record {
      exact = ready-basis question world c.in-Ok.ready refl c.in-Ok.ensures.exact c.basis_by.result c.basis_by.ensures.exact;
    }

pub returns-in-Err : goal.returns-in-Err
returns-in-Err c =
    let question = question_of (world_of c.args.world.now) (sections_in c.args.profile.now) (asked c.args.request.now) in
    record { exact = profile-refusal question c.in-Err.error c.in-Err.ensures.exact }
