-- Whether there is a text or a number behind so many steps.
use Rattle.std.proofs.Common.{arith}
use Rattle.map_elements.proofs.FrontLemmas.{ends_by}
use Rattle.map_elements.proofs.steps.part.Part.ends_plain.Goals as goal

pub returns-in-Some : goal.returns-in-Some
returns-in-Some c = record {
  value = λ yes.
      ends_by c.args.self.now c.split-back.result.1 c.args.before c.in-Some.step (λ text. c.is_plain.ensures.value text yes)
      (omega (arith, c.if-len-eq0.false, c.if-len-before.false, c.len.ensures.value, c.len-else-len-eq0.ensures.value))
      c.split-back.ensures.back c.in-Some.ensures.value;
}
