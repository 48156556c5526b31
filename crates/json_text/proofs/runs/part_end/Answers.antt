-- Digits are a run of the part.
use Rattle.std.proofs.Common.{take, drop, sym, ◌-◌, ◌∙◌}
use Rattle.json_text.proofs.RunLemmas.{digits_stay}
use Rattle.json_text.proofs.runs.part_end.Goals as goal

pub returns-then-takes_digits-clause-all : goal.returns-then-takes_digits-clause-all
returns-then-takes_digits-clause-all c =
    digits_stay c.args.part (take (c.digits_end.result - c.args.from) (drop c.args.from c.args.bytes.now))
    (sym c.takes_digits.ensures.value ∙ c.if-takes_digits.true) c.digits_end.ensures.all
