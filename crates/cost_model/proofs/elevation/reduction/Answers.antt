use Rattle.std.proofs.Common.{◌≡◌, SFits, w64, subst}
use Rattle.std.proofs.lemmas.Int.{to_z-of_z}
use Rattle.cost_model.specs.Prices.{Prices}
use Rattle.cost_model.specs.Parts.{per_metre, climb_of}
use Rattle.cost_model.proofs.LinkLemmas.{slope-narrow}
use Rattle.cost_model.proofs.elevation.reduction.Goals as goal

pub returns-clause-exact : goal.returns-clause-exact
unfolding climb_of
returns-clause-exact c =
    let narrow = slope-narrow _ c.rates.invariant.reduction in
    let r : SFits w64 c.slope.result = record { sfits = c.slope.type_inv } in
    let is : c.slope.result ≡ per_metre c.args.facts.now.arrow.len c.rates.inside.reduction =
    simp (to_z-of_z, narrow) at c.slope.ensures.exact in
    simp (to_z-of_z, r)
    (subst (λ (p : Prices). c.slope.result ≡ (climb_of p c.args.facts.now).reduction) c.rates.view_is is)
