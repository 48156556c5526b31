use Rattle.std.proofs.Common.{arith}
use Rattle.hall.proofs.PeerFindLemmas.{at_within, reader_found, reader_none, reader_unread}
use Rattle.hall.proofs.peers.reader_of.Goals as goal

pub returns-in-Err : goal.returns-in-Err
returns-in-Err c = record { exact = reader_none c.args.room.now.peers.items c.args.id c.in-Err.field-0 c.in-Err.ensures.absent }

pub index-requires : goal.index-requires
index-requires c =
    omega (arith, at_within c.args.room.now.peers.items c.args.id c.in-Ok.k c.in-Ok.ensures.found, c.args.room.now.peers.ok.0)

pub returns-then-is_read : goal.returns-then-is_read
returns-then-is_read c = record {
  exact = reader_found c.args.room.now.peers.items c.args.id c.in-Ok.k c.index.result.now c.in-Ok.ensures.found c.index.ensures
      c.if-is_read.ensures.exact;
}

pub returns-else-is_read : goal.returns-else-is_read
returns-else-is_read c = record {
  exact = reader_unread c.args.room.now.peers.items c.args.id c.in-Ok.k c.index.result.now c.requires.ascending c.in-Ok.ensures.found
      c.index.ensures c.if-is_read.ensures.exact;
}
