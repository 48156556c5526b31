use Rattle.std.proofs.Common.{◌≤◌, List, ℕ, length, sym, subst}
use Rattle.edge_io.proofs.PeersLemmas.{length_without}
use Rattle.edge_io.proofs.peers.Peers.let_idle_go.Goals as goal

pub returns-clause-line : goal.returns-clause-line
returns-clause-line g c =
    let before = c.args.self.now.turns.waiting in
    subst (λ (ids : List ℕ). length ids ≤ length before) (sym c.let_go-gone.ensures.line) (length_without c.in-Some.id before)
