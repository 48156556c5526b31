use Rattle.std.proofs.Common.{rules}
use Rattle.edge_io.proofs.PeersLemmas.{Hears-left, Hears-gone}
use Rattle.edge_io.proofs.peers.Peers.hear.Goals as goal

pub returns-then-follows-clause-heard : goal.returns-then-follows-clause-heard
returns-then-follows-clause-heard g c =
    Hears-gone _ _ _ _ _ _ _ _ _ _ _ c.in-Some.peer.now c.heard-follows.new.peer (search rules) (search rules) c.if-follows.true (search rules)
    c.heard-follows.ensures.heard

pub returns-else-follows-clause-heard : goal.returns-else-follows-clause-heard
returns-else-follows-clause-heard g c =
    Hears-left _ _ _ _ _ _ _ _ _ _ _ c.in-Some.peer.now c.heard-follows.new.peer (search rules) (search rules) c.if-follows.false (search rules)
    c.heard-follows.ensures.heard
