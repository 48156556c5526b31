use Rattle.std.proofs.Common.{◌≡◌, ◌-ℤ◌, SFits, w64, ap, subst, ◌∙◌}
use Rattle.std.proofs.lemmas.Int.{to_z-of_z}
use Rattle.elev_buffer.specs.Step.{step_of}
use Rattle.cost_model.specs.Prices.{Prices, IsPrices}
use Rattle.cost_model.specs.Parts.{per_metre, climb_of}
use Rattle.cost_model.proofs.LinkLemmas.{slope-narrow, added_fits, rise-fits}
use Rattle.cost_model.proofs.elevation.ascent.Goals as goal

pub returns-clause-exact : goal.returns-clause-exact
unfolding climb_of
returns-clause-exact c =
    let sizes = rise-fits _ c.requires.facts.rise in
    let rise : SFits w64 c.args.facts.now.rise = sizes.0 in
    let cutoff = slope-narrow _ c.rates.invariant.up_cutoff in
    let s : SFits w64 c.slope.result = record { sfits = c.slope.type_inv } in
    let a : SFits w64 (c.args.facts.now.rise -ℤ c.slope.result) =
    added_fits c.args.facts.now.rise c.slope.result c.requires.facts.rise c.slope.ensures.low c.slope.ensures.high in
    let is_s : c.slope.result ≡ per_metre c.args.facts.now.arrow.len c.rates.inside.up_cutoff =
    simp (to_z-of_z, cutoff) at c.slope.ensures.exact in
    subst (λ (p : Prices). c.step.result ≡ step_of p.limits (climb_of p c.args.facts.now).up_added c.args.reduction c.args.up)
    c.rates.view_is
    (rw (← is_s) (simp (to_z-of_z, rise, s, a, c.ranges.reduction, c.ranges.up) at c.step.ensures.exact))
    ∙ ap
    (λ n. step_of c.args.rates.now.limits (climb_of c.args.rates.now c.args.facts.now).up_added n c.args.up)
    c.requires.reduced

pub returns-clause-prices : goal.returns-clause-prices
returns-clause-prices c = subst (λ p. IsPrices p) c.rates.view_is c.rates.invariant
