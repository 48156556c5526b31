use Rattle.std.proofs.Common.{SFits, w64, arith}
use Rattle.std.proofs.lemmas.Int.{ints, clamps, to_z-of_z}
use Rattle.cost_model.proofs.NumberLemmas.{cost-fits, same-bits}
use Rattle.cost_model.proofs.FactorLemmas.{factor-flat}
use Rattle.cost_model.proofs.distance.factor.Goals as goal

pub returns-then-facts-2-clause-exact : goal.returns-then-facts-2-clause-exact
returns-then-facts-2-clause-exact c =
    let cost = cost-fits _ c.requires.facts.costfactor in
    let down = same-bits _ _ (cost-fits _ c.requires.facts.downfactor) cost c.if-facts.true in
    let up = same-bits _ _ (cost-fits _ c.requires.facts.upfactor) cost c.if-facts-2.true in
    simp (to_z-of_z, cost) (factor-flat c.args.facts.now c.args.down c.args.up c.requires.facts.costfactor down up)

pub returns-clause-high : goal.returns-clause-high
returns-clause-high c =
    let moved : SFits w64 c.moved.result = record { sfits = c.moved.type_inv } in
    let result : SFits w64 c.max.result = record { sfits = c.max.type_inv } in
    let is = simp (to_z-of_z, moved) at c.max.ensures.value in
    let within = c.moved.ensures.within in
    simp (to_z-of_z, result) (omega (arith, ints, clamps))
