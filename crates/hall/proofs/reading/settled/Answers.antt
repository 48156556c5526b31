use Rattle.std.proofs.Common.{refl, subst}
use Rattle.hall.proofs.ReadingLemmas.{settles_refused, settles_silent, settles_undecided}
use Rattle.hall.specs.Parts.{connection_of}
use Rattle.hall.specs.Steps.{silent, undecided}
use Rattle.session_answers.specs.Received.{received_of}
use Rattle.session_answers.specs.Verdicts.{IsVerdict}
use Rattle.hall.proofs.reading.settled.Goals as goal

pub returns-in-Undecided : goal.returns-in-Undecided
returns-in-Undecided c =
    let desk = c.args.desk.now in
    let peer = c.args.peer.now in
    record {
      settles = λ old.
          settles_undecided desk desk.kept c.requires.kept (λ place overrides left k is. is) old (connection_of peer) peer.id peer.away peer c.requires.read refl refl
          (undecided (subst (IsVerdict (received_of peer.received) peer.ended) c.in-Undecided.is c.requires.verdict));
    }

pub returns-in-NoByte : goal.returns-in-NoByte
returns-in-NoByte c =
    let desk = c.args.desk.now in
    let peer = c.args.peer.now in
    record {
      settles = λ old.
          settles_silent desk desk.kept c.requires.kept (λ place overrides left k is. is) old (connection_of peer) peer.id peer.away c.silent.new.peer peer
          c.silent.ensures.value refl refl
          (silent (subst (IsVerdict (received_of peer.received) peer.ended) c.in-NoByte.is c.requires.verdict));
    }

pub returns-in-Refused : goal.returns-in-Refused
returns-in-Refused c =
    let peer = c.args.peer.now in
    record {
      settles = λ old.
          settles_refused c.args.desk.now c.requires.kept old peer c.refused.new.peer c.in-Refused.refusal
          (subst (IsVerdict (received_of peer.received) peer.ended) c.in-Refused.is c.requires.verdict) c.refused.ensures.value;
    }
