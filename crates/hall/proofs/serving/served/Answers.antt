-- A piece, and the close.
use Rattle.std.proofs.Common.{None, Some, if◌then◌else◌, subst, sym, ℕ}
use Rattle.edge_io.specs.Hub.{IsLive}
use Rattle.hall.proofs.ServingLemmas.{sent_live}
use Rattle.hall.proofs.ServedLemmas.{served_both, served_broken}
use Rattle.hall.proofs.serving.served.Goals as goal
use Rattle.hall.specs.Parts.{connection_of}
use Rattle.hall.specs.Serving.{ClosedDone}

pub stays-requires : goal.stays-requires
stays-requires g c =
    let mid = g.H.Hub.seen c.offered.new.hub in
    record {
      live =
          subst (λ (id : ℕ). IsLive mid.acts id) (sym c.if-offered.ensures.kept.own)
          (sent_live c.args.peer.now.id (connection_of c.args.peer.now) (connection_of c.offered.new.peer) (g.H.Hub.seen c.args.hub.now) mid
          c.if-offered.ensures.sent c.requires.live);
    }

pub returns-then-offered-clause-served : goal.returns-then-offered-clause-served
returns-then-offered-clause-served g c =
    let mid = g.H.Hub.seen c.offered.new.hub in
    let new = g.H.Hub.seen c.stays.new.hub in
    let left = if c.stays.result then Some (connection_of c.offered.new.peer) else None in
    served_both c.args.peer.now.id (connection_of c.args.peer.now) (connection_of c.offered.new.peer) left (g.H.Hub.seen c.args.hub.now) mid new
    c.if-offered.ensures.sent
    (subst (λ (id : ℕ). ClosedDone id (connection_of c.offered.new.peer) mid left new) c.if-offered.ensures.kept.own c.stays.ensures.closed)

pub returns-clause-served : goal.returns-clause-served
returns-clause-served g c =
    served_broken c.args.peer.now.id (connection_of c.args.peer.now) (g.H.Hub.seen c.args.hub.now) (g.H.Hub.seen c.offered.new.hub)
    c.if-offered.ensures.sent
