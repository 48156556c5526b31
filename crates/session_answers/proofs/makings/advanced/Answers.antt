use Rattle.std.proofs.Common.{subst}
use Rattle.route_ready.specs.Making.{PreparingEnds}
use Rattle.route_ready.specs.World.{world_of}
use Rattle.session_answers.proofs.MakingLemmas.{goes-on, made-ready, made-refused}
use Rattle.session_answers.specs.Makings.{IsProgressOf}
use Rattle.session_answers.proofs.makings.advanced.Goals as goal

pub returns-in-More-clause-sound : goal.returns-in-More-clause-sound
returns-in-More-clause-sound c = λ binding was.
    let world = world_of c.args.world.now in
    goes-on world binding c.in-Going.preparing (subst (IsProgressOf world binding) c.in-Going.is was) c.in-More.next
    c.in-More.ensures.ends

pub returns-in-Ok-clause-sound : goal.returns-in-Ok-clause-sound
returns-in-Ok-clause-sound c = λ binding was.
    let world = world_of c.args.world.now in
    made-ready world binding c.in-Going.preparing (subst (IsProgressOf world binding) c.in-Going.is was) c.in-Done-Ok.ready c.in-Ok.ready
    (subst (PreparingEnds world c.in-Going.preparing) c.in-Done-Ok.field-0-is c.in-Done-Ok.ensures.ends) c.in-Ok.ensures.ok

pub returns-in-Going-clause-sound : goal.returns-in-Going-clause-sound
returns-in-Going-clause-sound c = λ binding was.
    let world = world_of c.args.world.now in
    made-refused world binding c.in-Going.preparing (subst (IsProgressOf world binding) c.in-Going.is was) c.in-Done-Err.error
    (subst (PreparingEnds world c.in-Going.preparing) c.in-Done-Err.field-0-is c.in-Done-Err.ensures.ends)
