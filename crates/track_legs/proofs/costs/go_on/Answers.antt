use Rattle.std.proofs.Common.{◌≡◌, ℕ, List, [], Option, IfSome, ap, subst, sym}
use Rattle.cost_model.specs.Walks.{GoesOn}
use Rattle.cost_model.specs.declared.parts.Carry.{Carry}
use Rattle.track_legs.specs.Costs.{IsCarriedSoFar, IsKept}
use Rattle.track_legs.proofs.costs.go_on.Goals as goal

pub returns-in-None : goal.returns-in-None
returns-in-None g c =
    let rates = c.args.rates.now in
    let facts = (g.F.FactsOf.links c.args.facts.now).facts in
    let next = c.first.result.0 in
    let parts = c.first.result.1 in
    let link : next.link ≡ c.args.link = ap (λ (carry : Carry). carry.link) c.first.ensures.carry in
    record {
      link = link;
      kept = record { link = rw link c.requires.in_range; held = c.first.ensures.held };
      paid = c.first.ensures.paid;
      along = λ walk so_far.
          let none : walk ≡ [] = subst (λ (carry : Option Carry). IsCarriedSoFar rates facts walk carry) c.in-None.is so_far in
          subst (λ (before : List ℕ). GoesOn rates facts before next parts) (sym none)
          (c.first.ensures.along facts (sym c.facts-taken.ensures.value));
    }

pub returns-in-Some : goal.returns-in-Some
returns-in-Some g c =
    let rates = c.args.rates.now in
    let facts = (g.F.FactsOf.links c.args.facts.now).facts in
    let next = c.enter.result.0 in
    let parts = c.enter.result.1 in
    let link : next.link ≡ c.args.link = ap (λ (carry : Carry). carry.link) c.enter.ensures.carry in
    record {
      link = link;
      kept = record { link = rw link c.requires.in_range; held = c.enter.ensures.held };
      paid = c.enter.ensures.paid;
      along = λ walk so_far.
          c.enter.ensures.along facts walk (sym c.facts.ensures.value) (sym c.facts-taken.ensures.value)
          (subst (λ (carry : Option Carry). IsCarriedSoFar rates facts walk carry) c.in-Some.is so_far);
    }

pub facts-requires : goal.facts-requires
facts-requires g c =
    let kept = subst (λ (carry : Option Carry). IfSome carry (λ last. IsKept c.args.rates.now (g.F.FactsOf.links c.args.facts.now).count last))
    c.in-Some.is c.requires.kept in
    record { within = kept.link }
