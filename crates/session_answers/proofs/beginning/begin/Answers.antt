use Rattle.route_ready.specs.World.{world_of}
use Rattle.session_answers.proofs.QueryLemmas.{malformed-frame}
use Rattle.session_answers.specs.Profiles.{stored_of}
use Rattle.session_answers.specs.Sites.{site_of}
use Rattle.session_answers.proofs.beginning.begin.Goals as goal

pub returns-in-Ok-clause-exact : goal.returns-in-Ok-clause-exact
returns-in-Ok-clause-exact c =
    c.named.ensures.exact c.args.labels c.args.query.now (c.in-Ok.ensures.exact (world_of c.args.world.now))

pub returns-in_ok-frame-in-Err-clause-exact : goal.returns-in_ok-frame-in-Err-clause-exact
returns-in_ok-frame-in-Err-clause-exact c =
    malformed-frame (site_of (world_of c.args.world.now) c.args.labels) (stored_of c.args.profiles.now) c.args.aim c.args.query.now
    c.in-Err.error c.in_ok-frame-in-Err.frame.items (c.in-Err.ensures.exact (world_of c.args.world.now))
    c.in_ok-frame-in-Err.ensures.reason c.in_ok-frame-in-Err.ensures.exact
