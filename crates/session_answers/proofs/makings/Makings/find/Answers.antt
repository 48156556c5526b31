use Rattle.std.proofs.Common.{arith}
use Rattle.session_answers.proofs.MakingLemmas.{place-within}
use Rattle.session_answers.proofs.makings.Makings.find.Goals as goal

pub returns-clause-none : goal.returns-clause-none
returns-clause-none c = λ none k stands.
    let slots = c.args.self.now.slots.items in
    let within = place-within slots k stands.making stands.there in
    c.slots.invariant k (omega (arith, within, c.slots-test.false, c.len-k-end.ensures)) stands
