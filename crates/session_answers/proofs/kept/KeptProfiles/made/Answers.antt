use Rattle.profile_text.specs.Expr.{sections_in}
use Rattle.route_ready.specs.World.{world_of}
use Rattle.route_ready.specs.Worlds.{binding_in}
use Rattle.session_answers.proofs.ReadyLemmas.{gives-ready, made-from}
use Rattle.session_answers.proofs.kept.KeptProfiles.made.Goals as goal

pub returns-in-Ok : goal.returns-in-Ok
returns-in-Ok c =
    let world = world_of c.args.world.now in
    let sections = sections_in c.args.profile.now in
    record {
      exact = λ stored kept there. (
        c.kept.ensures.kept world stored kept
            (made-from world stored c.args.key c.args.overrides.now sections c.in-Ok.ready c.requires.same there c.in-Ok.ensures.exact),
        gives-ready (binding_in world sections c.args.overrides.now) c.in-Ok.ready c.kept.result c.in-Ok.ensures.exact
            c.kept.ensures.same c.kept.ensures.cause,
      );
    }
