use Rattle.std.proofs.Common.{length, take, ◌-◌, ◌≤◌}
use Rattle.edge_io.specs.Sink.{Grows}
use Rattle.edge_io.proofs.send.send_all.Given as goal

abbrev pub invariant-sending : goal.invariant-sending
invariant-sending g l = record {
  within : l.sent ≤ length l.bytes;
  grows : Grows (g.O.Sink.seen l.initial.out) (g.O.Sink.seen l.out) (take l.sent l.bytes);
}

abbrev pub decreases-sending : goal.decreases-sending
decreases-sending g l = length l.bytes - l.sent
