use Rattle.std.proofs.Common.{◌≡◌, ◌⊎◌, IfErr, IfOk, sym, subst}
use Rattle.certificate_text.specs.Texts.{AreLegs, legs_of, value_of}
use Rattle.profile_text.specs.Expr.{sections_in}
use Rattle.ride_certificates.specs.Certificates.{Certifies, IsRefusedAsTrack}
use Rattle.ride_certificates.specs.Checks.{AreAgreed}
use Rattle.route_engine.specs.Replies.{question_of}
use Rattle.route_http.specs.Seen.{asked}
use Rattle.route_ready.specs.World.{world_of}
use Rattle.ride_certificates.proofs.AgreeLemmas.{none-answers, told-agrees, told-answers, told-writable}
use Rattle.ride_certificates.proofs.AskLemmas.{basis-legs, certifies-moved}
use Rattle.ride_certificates.proofs.RefusalLemmas.{early-certifies, told-refuses}
use Rattle.route_ready.specs.declared.error.RouteError.TheVariants.{NoMemory}
use Rattle.ride_certificates.proofs.certifying.certify.Goals as goal

pub returns-in-Ok-clause-exact : goal.returns-in-Ok-clause-exact
returns-in-Ok-clause-exact c =
    let world = world_of c.args.world.now in
    let question = question_of world (sections_in c.args.profile.now) (asked c.args.request) in
    let basis = c.in-Ok.basis in
    let is = c.in-Ok.ensures.exact in
    let found = c.in_ok-found-in-Ok.found in
    let comes = certifies-moved world is.setting question.asked.waypoints basis is.is c.args.bound question.asked.labels found
    c.in_ok-found-in-Ok.ensures.exact in
    subst (Certifies question c.args.bound) (sym c.told.ensures.exact)
    (told-answers question is.setting basis.nodes.items (basis-legs world question basis is) c.args.bound found comes)

pub returns-in-Ok-clause-fits : goal.returns-in-Ok-clause-fits
returns-in-Ok-clause-fits c =
    let roads = (world_of c.args.world.now).map in
    subst (λ r. IfOk r (λ certificate. AreLegs roads (legs_of certificate))) (sym c.told.ensures.exact)
    (told-writable roads c.in_ok-found-in-Ok.found c.in_ok-found-in-Ok.ensures.fits)

pub returns-in-Ok-clause-agrees : goal.returns-in-Ok-clause-agrees
returns-in-Ok-clause-agrees c =
    let world = world_of c.args.world.now in
    let question = question_of world (sections_in c.args.profile.now) (asked c.args.request) in
    let basis = c.in-Ok.basis in
    let is = c.in-Ok.ensures.exact in
    let found = c.in_ok-found-in-Ok.found in
    let comes = certifies-moved world is.setting question.asked.waypoints basis is.is c.args.bound question.asked.labels found
    c.in_ok-found-in-Ok.ensures.exact in
    subst (λ r. IfOk r (λ certificate. AreAgreed question (value_of certificate))) (sym c.told.ensures.exact)
    (told-agrees question is.setting basis.nodes.items (basis-legs world question basis is) c.args.bound found comes)

pub returns-clause-exact : goal.returns-clause-exact
returns-clause-exact c =
    let question = question_of (world_of c.args.world.now) (sections_in c.args.profile.now) (asked c.args.request) in
    none-answers question c.args.bound c.in-Err.error c.in-Err.ensures.exact

pub returns-in-Ok-clause-refused : goal.returns-in-Ok-clause-refused
returns-in-Ok-clause-refused c =
    let world = world_of c.args.world.now in
    let question = question_of world (sections_in c.args.profile.now) (asked c.args.request) in
    let basis = c.in-Ok.basis in
    let is = c.in-Ok.ensures.exact in
    let found = c.in_ok-found-in-Ok.found in
    let comes = certifies-moved world is.setting question.asked.waypoints basis is.is c.args.bound question.asked.labels found
    c.in_ok-found-in-Ok.ensures.exact in
    subst (λ r. IfErr r (λ e. (e ≡ NoMemory) ⊎ IsRefusedAsTrack question c.args.bound e)) (sym c.told.ensures.exact)
    (told-refuses question is.setting basis.nodes.items (basis-legs world question basis is) c.args.bound found comes)

pub returns-clause-refused : goal.returns-clause-refused
returns-clause-refused c =
    let question = question_of (world_of c.args.world.now) (sections_in c.args.profile.now) (asked c.args.request) in
    early-certifies question c.args.bound c.in-Err.error c.in-Err.ensures.exact
