use Rattle.std.proofs.Common.{◌==◌, ◌∙◌, ℕ, List, ap, not, rules}
use Rattle.std.proofs.lemmas.Fn.{filter_same}
use Rattle.edge_io.specs.Peers.{without}
use Rattle.edge_io.proofs.PeersLemmas.{filter_without}
use Rattle.edge_io.proofs.turns.Turns.leave.Goals as goal

pub returns-clause-value : goal.returns-clause-value
returns-clause-value c =
    filter_same _ (λ (j : ℕ). not (j == c.args.id)) _ (λ x b f' h. search rules) _ _ c.retain.ensures.filtered
    ∙ filter_without c.args.id c.self.inside.line.items
    ∙ ap (λ (ids : List ℕ). without c.args.id ids) (search rules)
