use Rattle.std.proofs.Common.{◌≡◌, pos, ◌-ℤ◌, SFits, w64, ap, subst, ◌∙◌}
use Rattle.std.proofs.lemmas.Int.{to_z-of_z}
use Rattle.elev_buffer.specs.Step.{step_of}
use Rattle.cost_model.specs.Prices.{Prices, IsPrices}
use Rattle.cost_model.specs.Parts.{per_metre, climb_of}
use Rattle.cost_model.proofs.LinkLemmas.{slope-narrow, added_fits, rise-fits}
use Rattle.cost_model.proofs.elevation.descent.Goals as goal

pub returns-clause-exact : goal.returns-clause-exact
unfolding climb_of
returns-clause-exact c =
    let sizes = rise-fits _ c.requires.facts.rise in
    let rise : SFits w64 c.args.facts.now.rise = sizes.0 in
    let fall : SFits w64 (pos 0 -ℤ c.args.facts.now.rise) = sizes.1 in
    let cutoff = slope-narrow _ c.rates.invariant.down_cutoff in
    let s : SFits w64 c.slope.result = record { sfits = c.slope.type_inv } in
    let a : SFits w64 ((pos 0 -ℤ c.args.facts.now.rise) -ℤ c.slope.result) =
    added_fits (pos 0 -ℤ c.args.facts.now.rise) c.slope.result sizes.2 c.slope.ensures.low c.slope.ensures.high in
    let is_s : c.slope.result ≡ per_metre c.args.facts.now.arrow.len c.rates.inside.down_cutoff =
    simp (to_z-of_z, cutoff) at c.slope.ensures.exact in
    subst (λ (p : Prices). c.step.result ≡ step_of p.limits (climb_of p c.args.facts.now).down_added c.args.reduction c.args.down)
    c.rates.view_is
    (rw (← is_s) (simp (to_z-of_z, rise, fall, s, a, c.ranges.reduction, c.ranges.down) at c.step.ensures.exact))
    ∙ ap
    (λ n. step_of c.args.rates.now.limits (climb_of c.args.rates.now c.args.facts.now).down_added n c.args.down)
    c.requires.reduced

pub returns-clause-prices : goal.returns-clause-prices
returns-clause-prices c = subst (λ p. IsPrices p) c.rates.view_is c.rates.invariant
