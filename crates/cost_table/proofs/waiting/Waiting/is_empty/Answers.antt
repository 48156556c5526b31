use Rattle.std.proofs.Common.{List, ℕ, subst}
use Rattle.cost_table.specs.Waiting.{NoneWaits, waits_among}
use Rattle.cost_table.proofs.WaitLemmas.{none-among}
use Rattle.cost_table.proofs.waiting.Waiting.is_empty.Goals as goal

pub returns : goal.returns
returns c = record {
  exact = subst (λ (nodes : List ℕ). NoneWaits (waits_among nodes) c.is_empty.result) c.self.view_is
      (none-among c.self.inside.nodes.keys c.is_empty.result c.is_empty.ensures);
}
