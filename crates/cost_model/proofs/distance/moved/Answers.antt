use Rattle.std.proofs.Common.{◌≡◌, pos, ◌+ℤ◌, ◌-ℤ◌, ◌*ℤ◌}
use Rattle.std.specs.Int.{int_div_euclid}
use Rattle.std.proofs.lemmas.Int.{to_z-of_z}
use Rattle.cost_model.proofs.NumberLemmas.{cost-fits}
use Rattle.cost_model.proofs.FactorLemmas.{moved_fits, moved-is}
use Rattle.cost_model.proofs.distance.moved.Goals as goal

pub overflow_add-cost : goal.overflow_add-cost
overflow_add-cost c =
    let m = moved_fits c.args.facts.now.costfactor c.pull-descending.result c.pull-climbing.result c.requires.facts.costfactor
    c.pull-descending.ensures.within c.pull-climbing.ensures.within in
    simp (to_z-of_z, m.cost_narrow, m.cost_wide, m.millions, m.down_fits) m.one

pub overflow_add-cost-2 : goal.overflow_add-cost-2
overflow_add-cost-2 c =
    let m = moved_fits c.args.facts.now.costfactor c.pull-descending.result c.pull-climbing.result c.requires.facts.costfactor
    c.pull-descending.ensures.within c.pull-climbing.ensures.within in
    simp (to_z-of_z, m.cost_narrow, m.cost_wide, m.millions, m.down_fits, m.up_fits, m.one) m.both

-- what was divided is the quotient of the definition
divided : (c : goal.After-div_euclid) → c.div_euclid.result ≡
    int_div_euclid (c.args.facts.now.costfactor *ℤ pos 1000000 +ℤ c.pull-descending.result +ℤ c.pull-climbing.result) (pos 1000000)
divided c =
    let m = moved_fits c.args.facts.now.costfactor c.pull-descending.result c.pull-climbing.result c.requires.facts.costfactor
    c.pull-descending.ensures.within c.pull-climbing.ensures.within in
    simp (to_z-of_z, m.cost_narrow, m.cost_wide, m.millions, m.down_fits, m.up_fits, m.one, m.both) at c.div_euclid.ensures

pub overflow_cast-result : goal.overflow_cast-result
overflow_cast-result c =
    let m = moved_fits c.args.facts.now.costfactor c.pull-descending.result c.pull-climbing.result c.requires.facts.costfactor
    c.pull-descending.ensures.within c.pull-climbing.ensures.within in
    rw (divided c) (simp (to_z-of_z, m.wide) m.back)

pub returns-clause-exact : goal.returns-clause-exact
returns-clause-exact c =
    let m = moved_fits c.args.facts.now.costfactor c.pull-descending.result c.pull-climbing.result c.requires.facts.costfactor
    c.pull-descending.ensures.within c.pull-climbing.ensures.within in
    let down = cost-fits _ c.requires.facts.downfactor in
    let up = cost-fits _ c.requires.facts.upfactor in
    let d : c.pull-descending.result ≡ (c.args.facts.now.downfactor -ℤ c.args.facts.now.costfactor) *ℤ c.args.down =
    simp (to_z-of_z, m.cost_narrow, down, c.ranges.down) at c.pull-descending.ensures.exact in
    let u : c.pull-climbing.result ≡ (c.args.facts.now.upfactor -ℤ c.args.facts.now.costfactor) *ℤ c.args.up =
    simp (to_z-of_z, m.cost_narrow, up, c.ranges.up) at c.pull-climbing.ensures.exact in
    rw (divided c) (simp (to_z-of_z, m.wide, m.back) (moved-is c.args.facts.now _ _ _ _ d u))

pub returns-clause-within : goal.returns-clause-within
returns-clause-within c =
    let m = moved_fits c.args.facts.now.costfactor c.pull-descending.result c.pull-climbing.result c.requires.facts.costfactor
    c.pull-descending.ensures.within c.pull-climbing.ensures.within in
    rw (divided c) (simp (to_z-of_z, m.wide, m.back) m.within)
