use Rattle.std.proofs.Common.{sym, ◌∙◌, SFits, w64}
use Rattle.std.proofs.lemmas.Int.{to_z-of_z}
use Rattle.cost_model.proofs.RateLemmas.{none-positive, rates-negative, rates-order, rates-fit}
use Rattle.cost_model.proofs.rates.Rates.new.Goals as goal

pub returns-in-Some : goal.returns-in-Some
returns-in-Some c =
    record { exact = sym (rates-negative c.args.globals.now _ (sym c.first_negative.ensures.exact ∙ c.in-Some.is)) }

pub returns-then-most-penalty : goal.returns-then-most-penalty
returns-then-most-penalty c =
    let p : SFits w64 c.value-penalty.result = record { sfits = c.value-penalty.type_inv } in
    let m : SFits w64 c.value-most.result = record { sfits = c.value-most.type_inv } in
    let order = rates-order c.args.globals.now c.value-penalty.result c.value-most.result (sym c.first_negative.ensures.exact
    ∙ c.in_default.is)
    c.value-penalty.ensures.exact c.value-most.ensures.exact (simp (to_z-of_z, p, m) at c.if-most-penalty.true) in
    record { exact = simp (to_z-of_z, p, m) (sym order) }

pub of_values-requires-clause-positive : goal.of_values-requires-clause-positive
of_values-requires-clause-positive c = none-positive c.args.globals.now (sym c.first_negative.ensures.exact ∙ c.in_default.is)

pub returns : goal.returns
returns c =
    let p : SFits w64 c.value-penalty.result = record { sfits = c.value-penalty.type_inv } in
    let m : SFits w64 c.value-most.result = record { sfits = c.value-most.type_inv } in
    let fit = rates-fit c.args.globals.now c.value-penalty.result c.value-most.result (sym c.first_negative.ensures.exact ∙ c.in_default.is)
    c.value-penalty.ensures.exact c.value-most.ensures.exact (simp (to_z-of_z, p, m) at c.if-most-penalty.false) in
    record { exact = rw c.of_values.ensures.exact (sym fit) }
