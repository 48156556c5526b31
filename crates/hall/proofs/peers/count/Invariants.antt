use Rattle.std.proofs.Common.{◌≡◌, ◌+◌, ◌≤◌, drop}
use Rattle.hall.specs.Parts.{count_of}
use Rattle.hall.proofs.peers.count.Given as goal

abbrev pub invariant-peers : goal.invariant-peers
invariant-peers l =
    (l.n ≤ l.k) × (l.n + count_of (drop l.k l.room.peers.items) l.away ≡ count_of l.room.peers.items l.away)
