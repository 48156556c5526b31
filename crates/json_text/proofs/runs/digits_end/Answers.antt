-- The next byte passes too.
use Rattle.std.proofs.Common.{arith, sym, ◌∙◌}
use Rattle.json_text.specs.Bytes.{is_digit}
use Rattle.json_text.proofs.RunLemmas.{all_at}
use Rattle.json_text.proofs.runs.digits_end.Goals as goal

pub run-preserved : goal.run-preserved
run-preserved c = (
  omega (arith, c.run.invariant.0),
  omega (arith, c.run-test.true),
  all_at is_digit c.args.from c.run.at c.args.bytes.now c.run.invariant.0 (omega (arith, c.run-test.true)) c.run.invariant.2
      (sym c.is_digit.ensures.value ∙ c.if-is_digit.true),
)
