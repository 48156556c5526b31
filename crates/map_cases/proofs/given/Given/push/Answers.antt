use Rattle.std.proofs.Common.{List, length, ◌<◌, ◌^◌, sym, subst, arith}
use Rattle.cost_model.specs.declared.facts.LinkFacts.{LinkFacts}
use Rattle.map_cases.specs.Given.{AreGiven}
use Rattle.map_cases.proofs.GivenLemmas.{few-push, given-push}
use Rattle.map_cases.proofs.given.Given.push.Goals as goal

pub invariant_of-self : goal.invariant_of-self
invariant_of-self c =
    let before = c.args.self.now in
    record {
      few = subst (λ (xs : List LinkFacts). length xs < 2 ^ 32) (sym c.push.ensures.items)
          (few-push before.facts.items c.args.facts _ (omega (arith, c.if-len.false, c.len.ensures, before.facts.ok.0)));
      given = subst AreGiven (sym c.push.ensures.items)
          (given-push before.facts.items c.args.facts _ before.given c.requires.facts);
    }
