use Rattle.std.proofs.Common.{List, add-one, arith, subst, sym, take, ℕ}
use Rattle.std.proofs.lemmas.List.{take_all}
use Rattle.hall.proofs.SweepLemmas.{none_next, waiter_at}
use Rattle.hall.specs.Swept.{HasNoWaiter}
use Rattle.hall.specs.declared.peer.Peer.{Peer}
use Rattle.hall.proofs.sweeping.is_awaited.Goals as goal

pub peers-init : goal.peers-init
peers-init c = λ peer one. absurd one

pub returns-then-awaits-clause-found : goal.returns-then-awaits-clause-found
returns-then-awaits-clause-found c = λ _.
    let peers = c.args.room.now.peers in
    waiter_at peers.items c.peers.j c.args.k c.index.result.now (omega (arith, c.peers-test.true, peers.ok.0)) c.index.ensures
    (sym c.if-awaits.ensures.exact)

pub peers-preserved : goal.peers-preserved
peers-preserved c =
    let peers = c.args.room.now.peers in
    subst (λ (n : ℕ). HasNoWaiter (take n peers.items) c.args.k) (sym (add-one c.peers.j))
    (none_next peers.items c.peers.j c.args.k c.index.result.now (omega (arith, c.peers-test.true, peers.ok.0)) c.index.ensures
    (sym c.if-awaits.ensures.exact) c.peers.invariant)

pub returns-clause-none : goal.returns-clause-none
returns-clause-none c = λ _.
    let peers = c.args.room.now.peers in
    subst (λ (l : List Peer). HasNoWaiter l c.args.k) (take_all c.peers.j peers.items (omega (arith, c.peers-test.false, peers.ok.0)))
    c.peers.invariant
