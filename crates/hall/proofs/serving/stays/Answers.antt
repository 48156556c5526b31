-- A connection is closed where it is done.
use Rattle.hall.proofs.ServingLemmas.{closed_done, closed_none}
use Rattle.hall.proofs.serving.stays.Goals as goal
use Rattle.hall.specs.Parts.{connection_of}

pub returns-then-is_done : goal.returns-then-is_done
returns-then-is_done g c = record {
  closed = closed_done c.args.peer.now.id (connection_of c.args.peer.now) (g.H.Hub.seen c.args.hub.now) (g.H.Hub.seen c.close.new.self)
      (c.is_done.ensures.done c.if-is_done.true) c.requires.live c.close.ensures.value;
}

pub returns : goal.returns
returns g c = record {
  closed = closed_none c.args.peer.now.id (connection_of c.args.peer.now) (g.H.Hub.seen c.args.hub.now)
      (c.is_done.ensures.stays c.if-is_done.false);
}
