-- No turn, then one more, and the end.
use Rattle.std.proofs.Common.{None, Some, refl, ◌∙◌, subst, arith}
use Rattle.hall.specs.View.{service_of, state_of}
use Rattle.hall.specs.State.{Service}
use Rattle.hall.specs.Served.{TurnComesTo}
use Rattle.hall.proofs.TurnLemmas.{no_turns, one_more_turn, served_end}
use Rattle.hall.proofs.turn.take_turns.Goals as goal

pub turns-init : goal.turns-init
turns-init g c = record {
  took = no_turns (service_of c.args.hall.now) (state_of c.args.hall.now) (g.H.Hub.seen c.args.hub.now);
  live = c.requires.live;
  same = refl;
  room = refl;
}

pub returns-in-Some-clause-run : goal.returns-in-Some-clause-run
returns-in-Some-clause-run g c =
    let between = state_of c.turns.hall in
    let left = state_of c.take_turn.new.hall in
    let mid = g.H.Hub.seen c.turns.hub in
    let new = g.H.Hub.seen c.take_turn.new.hub in
    served_end (service_of c.args.hall.now) c.args.turns (state_of c.args.hall.now) between left (g.H.Hub.seen c.args.hub.now) mid new
    c.turns._turn
    c.in-Some.end c.turns.invariant.took c.turns-test.true
    (subst (λ (service : Service). TurnComesTo service between mid (Some c.in-Some.end) left new) c.turns.invariant.same c.in-Some.ensures.takes)

pub turns-preserved : goal.turns-preserved
turns-preserved g c =
    let between = state_of c.turns.hall in
    let left = state_of c.take_turn.new.hall in
    let mid = g.H.Hub.seen c.turns.hub in
    let new = g.H.Hub.seen c.take_turn.new.hub in
    record {
      took =
          one_more_turn (service_of c.args.hall.now) (state_of c.args.hall.now) between left (g.H.Hub.seen c.args.hub.now) mid new
          c.turns._turn
          c.turns.invariant.took
          (subst (λ (service : Service). TurnComesTo service between mid None left new) c.turns.invariant.same c.in_default.ensures.takes);
      live = c.take_turn.ensures.live;
      same = c.take_turn.ensures.same ∙ c.turns.invariant.same;
      room = omega arith;
    }
