-- The number goes on with the next byte too, and with the digits behind it.
use Rattle.std.proofs.Common.{arith, sym, ◌+◌, ◌∙◌}
use Rattle.json_text.proofs.RunLemmas.{parts_at, parts_on}
use Rattle.json_text.proofs.runs.number_end.Goals as goal

pub run-preserved : goal.run-preserved
run-preserved c = (
  omega (arith, c.run.invariant.0, c.part_end-at.ensures.onward),
  c.part_end-at.ensures.within,
  parts_on c.args.part c.in-Some.next c.in-Some.next c.args.from (c.run.at + 1) c.part_end-at.result c.args.bytes.now
      (omega (arith, c.run.invariant.0)) c.part_end-at.ensures.onward
      (parts_at c.args.part c.run.last c.in-Some.next c.args.from c.run.at c.args.bytes.now c.run.invariant.0
      (omega (arith, c.run-test.true)) c.run.invariant.2 (sym c.next_part.ensures.value ∙ c.in-Some.is))
      c.part_end-at.ensures.all,
)
