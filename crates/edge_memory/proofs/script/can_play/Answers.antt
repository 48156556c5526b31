use Rattle.std.proofs.Common.{◌-◌, sym, ◌∙◌, arith}
use Rattle.std.proofs.lemmas.List.{take_rest}
use Rattle.edge_memory.proofs.PlaceLemmas.{before-at}
use Rattle.edge_memory.proofs.script.can_play.Goals as goal

pub returns-then-not-goes_before : goal.returns-then-not-goes_before
returns-then-not-goes_before c = record {
  exact = (
    λ yes. (cc),
    λ playable. sym c.if-not-goes_before.true ∙ c.goes_before.ensures.exact.1 (simp take_rest
        (before-at c.args.script.now (c.testing.place - 1) c.index-script-place.result (omega arith) c.index-script-place.is playable)),
  );
}
