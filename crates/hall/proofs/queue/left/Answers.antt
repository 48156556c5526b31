use Rattle.std.proofs.Common.{◌==◌, ◌∙◌, ℕ, not, rules}
use Rattle.std.proofs.lemmas.Fn.{filter_same}
use Rattle.hall.proofs.IdLemmas.{filter_without}
use Rattle.hall.proofs.queue.left.Goals as goal

pub returns : goal.returns
returns c = record {
  value = filter_same _ (λ (j : ℕ). not (j == c.args.id)) _ (λ x b f' h. search rules) _ _ c.retain.ensures.filtered
      ∙ filter_without c.args.id c.args.queue.now.items;
}
