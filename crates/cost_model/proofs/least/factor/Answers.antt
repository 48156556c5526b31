use Rattle.std.proofs.Common.{◌≡◌, pos, ◌-ℤ◌, ◌∙◌, SFits, w64}
use Rattle.std.specs.Int.{int_min}
use Rattle.std.proofs.lemmas.Int.{to_z-of_z}
use Rattle.cost_model.specs.Parts.{least_factor}
use Rattle.cost_model.proofs.LeastLemmas.{least_fits, least_factor-is, least_factor-cost}
use Rattle.cost_model.proofs.least.factor.Goals as goal

pub overflow_add-facts-2 : goal.overflow_add-facts-2
overflow_add-facts-2 c =
    let r = c.requires.facts in
    let f = least_fits _ _ _ r.costfactor r.downfactor r.upfactor in
    let d : c.min-descending.result ≡ int_min (c.args.facts.now.downfactor -ℤ c.args.facts.now.costfactor) (pos 0) =
    simp (to_z-of_z, f.costs.0, f.costs.1, f.falls) at c.min-descending.ensures.value in
    let u : c.min-climbing.result ≡ int_min (c.args.facts.now.upfactor -ℤ c.args.facts.now.costfactor) (pos 0) =
    simp (to_z-of_z, f.costs.0, f.costs.2, f.climbs) at c.min-climbing.ensures.value in
    rw (d, u) (simp (to_z-of_z, f.costs.0, f.fall, f.climb, f.one) f.both)

-- the greatest is the low form
is : (c : goal.After-max) → c.max.result ≡ least_factor c.args.facts.now
is c =
    let r = c.requires.facts in
    let f = least_fits _ _ _ r.costfactor r.downfactor r.upfactor in
    let d : c.min-descending.result ≡ int_min (c.args.facts.now.downfactor -ℤ c.args.facts.now.costfactor) (pos 0) =
    simp (to_z-of_z, f.costs.0, f.costs.1, f.falls) at c.min-descending.ensures.value in
    let u : c.min-climbing.result ≡ int_min (c.args.facts.now.upfactor -ℤ c.args.facts.now.costfactor) (pos 0) =
    simp (to_z-of_z, f.costs.0, f.costs.2, f.climbs) at c.min-climbing.ensures.value in
    c.max.ensures.value ∙
    rw (d, u) (simp (to_z-of_z, f.costs.0, f.fall, f.climb, f.one, f.both) (least_factor-is c.args.facts.now))

pub returns-clause-exact : goal.returns-clause-exact
returns-clause-exact c =
    let made : SFits w64 c.max.result = record { sfits = c.max.type_inv } in
    simp (to_z-of_z, made) (is c)

pub returns-clause-high : goal.returns-clause-high
returns-clause-high c =
    let made : SFits w64 c.max.result = record { sfits = c.max.type_inv } in
    simp (to_z-of_z, made) (rw (is c) (least_factor-cost c.args.facts.now c.requires.facts).high)
