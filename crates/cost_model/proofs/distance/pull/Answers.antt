use Rattle.std.proofs.lemmas.Int.{to_z-of_z}
use Rattle.cost_model.proofs.NumberLemmas.{pull_fits}
use Rattle.cost_model.proofs.distance.pull.Goals as goal

pub overflow_mul-result : goal.overflow_mul-result
overflow_mul-result c =
    let f = pull_fits _ _ _ c.requires.factor c.requires.costfactor c.requires.weight in
    simp (to_z-of_z, c.ranges.factor, c.ranges.costfactor, c.ranges.weight, f.difference, f.wide, f.by) f.product

pub returns-clause-exact : goal.returns-clause-exact
returns-clause-exact c =
    let f = pull_fits _ _ _ c.requires.factor c.requires.costfactor c.requires.weight in
    simp (to_z-of_z, c.ranges.factor, c.ranges.costfactor, c.ranges.weight, f.difference, f.wide, f.by, f.product) cc

pub returns-clause-within : goal.returns-clause-within
returns-clause-within c =
    let f = pull_fits _ _ _ c.requires.factor c.requires.costfactor c.requires.weight in
    simp (to_z-of_z, c.ranges.factor, c.ranges.costfactor, c.ranges.weight, f.difference, f.wide, f.by, f.product) f.within
