use Rattle.std.proofs.Common.{Some, refl, subst, arith, set}
use Rattle.session_answers.proofs.MakingLemmas.{added-free, added-last}
use Rattle.session_answers.specs.Makings.{IsAdded}
use Rattle.session_answers.specs.declared.makings.Makings.{Makings}
use Rattle.session_answers.proofs.makings.Makings.add.Goals as goal

pub returns-then-is_free-clause-added : goal.returns-then-is_free-clause-added
returns-then-is_free-clause-added c =
    subst (λ (m : Makings). IsAdded m.slots.items (set c.slots.self.slots.items c.slots.k (Some c.args.making)) c.args.making c.slots.k)
    c.slots.invariant
    (added-free c.slots.self.slots.items c.slots.k c.args.making c.index.result.now
    (omega (arith, c.slots-test.true, c.len-k-end.ensures, c.slots.self.slots.ok)) c.index.ensures (c.if-is_free.ensures.exact refl))

pub returns-clause-added : goal.returns-clause-added
returns-clause-added c =
    subst (λ (m : Makings). IsAdded m.slots.items c.push.new.self.items c.args.making c.len-k.result) c.slots.invariant
    (added-last c.slots.self.slots.items c.push.new.self.items c.args.making c.len-k.result
    (omega (arith, c.len-k.ensures, c.slots.self.slots.ok)) c.in-Ok.ensures.items)
