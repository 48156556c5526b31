-- A step, and the close of whom there is no room for.
use Rattle.hall.specs.View.{service_of, state_of}
use Rattle.hall.proofs.LiveLemmas.{step_closes, step_live}
use Rattle.hall.proofs.turn.step.Goals as goal

pub returns-in-Some-clause-stepped : goal.returns-in-Some-clause-stepped
returns-in-Some-clause-stepped g c =
    (step_closes (service_of c.args.hall.now) (state_of c.args.hall.now) (state_of c.step.new.self) (g.H.Hub.seen c.args.hub.now)
    (g.H.Hub.seen c.close.new.self) c.args.event.now c.args.bytes.now c.in-Some.id c.requires.heard c.in-Some.ensures.step
    c.close.ensures.value).stepped

pub returns-in-Some-clause-live : goal.returns-in-Some-clause-live
returns-in-Some-clause-live g c =
    (step_closes (service_of c.args.hall.now) (state_of c.args.hall.now) (state_of c.step.new.self) (g.H.Hub.seen c.args.hub.now)
    (g.H.Hub.seen c.close.new.self) c.args.event.now c.args.bytes.now c.in-Some.id c.requires.heard c.in-Some.ensures.step
    c.close.ensures.value).live

pub returns-in_default-clause-live : goal.returns-in_default-clause-live
returns-in_default-clause-live g c =
    step_live (service_of c.args.hall.now) (state_of c.args.hall.now) (state_of c.step.new.self) (g.H.Hub.seen c.args.hub.now)
    c.args.event.now
    c.args.bytes.now c.step.result c.requires.heard c.step.ensures.step
