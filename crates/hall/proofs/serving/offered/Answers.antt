-- A piece is taken, or the send fails.
use Rattle.hall.proofs.ServingLemmas.{fits_piece, keeps_further, keeps_same, sent_broken, sent_none, sent_taken}
use Rattle.hall.proofs.serving.offered.Goals as goal
use Rattle.hall.specs.Parts.{connection_of, phase_in}

pub send_more-requires : goal.send_more-requires
send_more-requires g c = record {
  fits =
      fits_piece (phase_in c.args.peer.now.phase) c.in-Some.piece.now c.in-Ok.n c.in-Some.ensures.value c.in-Ok.ensures.fits;
}

pub returns-in-None-clause-sent : goal.returns-in-None-clause-sent
returns-in-None-clause-sent g c =
    sent_none c.args.peer.now.id (connection_of c.args.peer.now) (g.H.Hub.seen c.args.hub.now) c.in-None.ensures.value

pub returns-in-None-clause-kept : goal.returns-in-None-clause-kept
returns-in-None-clause-kept g c = keeps_same c.args.peer.now

pub returns-in-Ok-clause-sent : goal.returns-in-Ok-clause-sent
returns-in-Ok-clause-sent g c =
    sent_taken c.args.peer.now c.send_more.new.phase c.in-Some.piece.now c.in-Ok.n (g.H.Hub.seen c.args.hub.now)
    (g.H.Hub.seen c.send-sent.new.self) c.in-Some.ensures.value c.in-Ok.ensures.fits c.send_more.ensures.value c.in-Ok.ensures.value

pub returns-in-Ok-clause-kept : goal.returns-in-Ok-clause-kept
returns-in-Ok-clause-kept g c = keeps_further c.args.peer.now c.send_more.new.phase c.in-Ok.n c.send_more.ensures.value

pub returns-in-Err-clause-sent : goal.returns-in-Err-clause-sent
returns-in-Err-clause-sent g c =
    sent_broken c.args.peer.now.id (connection_of c.args.peer.now) c.in-Some.piece.now (g.H.Hub.seen c.args.hub.now)
    (g.H.Hub.seen c.send-sent.new.self)
    c.in-Some.ensures.value c.requires.live c.in-Err.ensures.broke

pub returns-in-Err-clause-kept : goal.returns-in-Err-clause-kept
returns-in-Err-clause-kept g c = keeps_same c.args.peer.now
