-- Nothing is pending, and the machine is before any symbol.
use Rattle.std.proofs.Common.{ap, drop, refl, arith}
use Rattle.json_text.proofs.HoldLemmas.{new_holds}
use Rattle.json_text.proofs.scanner.Scanner.new.Goals as goal

pub returns-clause-value : goal.returns-clause-value
returns-clause-value c = record {
  holds = new_holds _ (ap (λ xs. drop 0 xs) c.new.ensures.items) (omega (arith, c.new.ensures.len)) c.new-2.ensures.mode
      c.new-2.ensures.opens c.new-2.ensures.content;
  ended_is = refl;
  works = refl;
}
