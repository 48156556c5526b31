use Rattle.std.proofs.Common.{Ok, Err}
use Rattle.profile_text.specs.Expr.{sections_in}
use Rattle.ride_certificates.specs.Checks.{checked}
use Rattle.route_engine.specs.Replies.{question_of}
use Rattle.route_http.specs.Seen.{asked}
use Rattle.route_ready.specs.World.{world_of}
use Rattle.ride_certificates.proofs.AgreeLemmas.{none-checked}
use Rattle.ride_certificates.proofs.AskLemmas.{basis-legs, checks-moved, yes-least}
use Rattle.ride_certificates.proofs.RefusalLemmas.{early-refuses}
use Rattle.ride_certificates.proofs.ServedLemmas.{served-agrees}
use Rattle.ride_certificates.proofs.checking.check_certificate.Goals as goal

pub returns-in_ok-verdict-in-Ok-clause-exact : goal.returns-in_ok-verdict-in-Ok-clause-exact
returns-in_ok-verdict-in-Ok-clause-exact c =
    let world = world_of c.args.world.now in
    let question = question_of world (sections_in c.args.profile.now) (asked c.args.request.now) in
    let is = c.in-Ok.ensures.exact in
    checked (basis-legs world question c.in-Ok.basis is)
    (checks-moved world is.setting question.asked.waypoints c.in-Ok.basis is.is c.args.certificate.now
    c.in_ok-verdict-in-Ok.verdict c.in_ok-verdict-in-Ok.ensures.exact)

pub returns-in_ok-verdict-in-Ok-clause-least : goal.returns-in_ok-verdict-in-Ok-clause-least
returns-in_ok-verdict-in-Ok-clause-least c cost says =
    let world = world_of c.args.world.now in
    let question = question_of world (sections_in c.args.profile.now) (asked c.args.request.now) in
    let at = c.in_ok-verdict-in-Ok in
    yes-least world question c.in-Ok.basis c.in-Ok.ensures.exact c.args.certificate.now at.verdict cost at.ensures.exact
    (at.ensures.least cost says) says

pub returns-in_ok-verdict-in-Ok-clause-served : goal.returns-in_ok-verdict-in-Ok-clause-served
returns-in_ok-verdict-in-Ok-clause-served c =
    let world = world_of c.args.world.now in
    let question = question_of world (sections_in c.args.profile.now) (asked c.args.request.now) in
    let is = c.in-Ok.ensures.exact in
    served-agrees question c.args.certificate.now (Ok c.in_ok-verdict-in-Ok.verdict)
    (checked (basis-legs world question c.in-Ok.basis is)
    (checks-moved world is.setting question.asked.waypoints c.in-Ok.basis is.is c.args.certificate.now
    c.in_ok-verdict-in-Ok.verdict c.in_ok-verdict-in-Ok.ensures.exact))

pub returns-in-Err-clause-served : goal.returns-in-Err-clause-served
returns-in-Err-clause-served c =
    let question = question_of (world_of c.args.world.now) (sections_in c.args.profile.now) (asked c.args.request.now) in
    served-agrees question c.args.certificate.now (Err c.in-Err.error)
    (none-checked question c.args.certificate.now c.in-Err.error c.in-Err.ensures.exact)

pub returns-in-Err-clause-exact : goal.returns-in-Err-clause-exact
returns-in-Err-clause-exact c =
    let question = question_of (world_of c.args.world.now) (sections_in c.args.profile.now) (asked c.args.request.now) in
    none-checked question c.args.certificate.now c.in-Err.error c.in-Err.ensures.exact

pub returns-in-Err-clause-refused : goal.returns-in-Err-clause-refused
returns-in-Err-clause-refused c =
    let question = question_of (world_of c.args.world.now) (sections_in c.args.profile.now) (asked c.args.request.now) in
    early-refuses question c.in-Err.error c.in-Err.ensures.exact
