use Rattle.std.proofs.Common.{◌∙◌, sym, arith}
use Rattle.lookup_table.proofs.WordLemmas.{trimmed_at_space, trimmed_at_ink}
use Rattle.lookup_table.proofs.words.trimmed.Goals as goal

pub returns-then-not-is_space : goal.returns-then-not-is_space
returns-then-not-is_space c =
    record {
      value = sym (trimmed_at_ink c.args.text.now c.loop-end.end (omega arith) c.loop-end.invariant.1
          (sym c.if-not-is_space.ensures.exact)) ∙ sym c.loop-end.invariant.0;
    }

pub loop-end-preserved : goal.loop-end-preserved
loop-end-preserved c = (
  c.loop-end.invariant.0
      ∙ trimmed_at_space c.args.text.now c.loop-end.end (omega arith) c.loop-end.invariant.1 (sym c.if-not-is_space.ensures.exact),
  omega (arith, c.loop-end.invariant.1),
)
