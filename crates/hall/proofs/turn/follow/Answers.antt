-- A step, a turn of work, and all connections.
use Rattle.std.proofs.Common.{subst, sym}
use Rattle.hall.specs.View.{service_of, state_of}
use Rattle.hall.specs.Serving.{AreLive}
use Rattle.hall.specs.Served.{Turned}
use Rattle.hall.specs.State.{Service, State}
use Rattle.hall.specs.Steps.{Works}
use Rattle.hall.proofs.LiveLemmas.{AreLive-ids, KeepsIds-work}
use Rattle.hall.proofs.TurnLemmas.{turned}
use Rattle.hall.proofs.turn.follow.Goals as goal

pub serve_all-requires : goal.serve_all-requires
serve_all-requires g c = record {
  live =
      AreLive-ids (state_of c.step.new.hall) (state_of c.work.new.self) (g.H.Hub.seen c.step.new.hub)
      (KeepsIds-work (service_of c.step.new.hall) (state_of c.step.new.hall) (state_of c.work.new.self) c.work.ensures.works)
      c.step.ensures.live;
}

pub returns-clause-turned : goal.returns-clause-turned
returns-clause-turned g c =
    let seen = g.H.Hub.seen c.serve_all.new.hub in
    let stepped = state_of c.step.new.hall in
    let worked = state_of c.work.new.self in
    subst
    (λ (left : State).
    Turned (service_of c.args.hall.now) (state_of c.args.hall.now) (g.H.Hub.seen c.args.hub.now) c.args.event.now c.args.bytes.now left seen)
    (sym c.make_guides.ensures.state)
    (turned (service_of c.args.hall.now) (state_of c.args.hall.now) stepped worked (state_of c.serve_all.new.self)
    (g.H.Hub.seen c.args.hub.now)
    (g.H.Hub.seen c.step.new.hub) (g.H.Hub.seen c.serve_all.new.hub) c.args.event.now c.args.bytes.now c.requires.goes_on
    c.step.ensures.stepped
    (subst (λ (service : Service). Works service stepped worked) c.step.ensures.same c.work.ensures.works) c.serve_all.ensures.served)

pub returns-clause-live : goal.returns-clause-live
returns-clause-live g c =
    subst (λ (left : State). AreLive left (g.H.Hub.seen c.serve_all.new.hub)) (sym c.make_guides.ensures.state) c.serve_all.ensures.live
