use Rattle.std.proofs.Common.{refl}
use Rattle.std.proofs.lemmas.Int.{to_z-of_z}
use Rattle.geo_int.proofs.TurnLemmas.{turn_fits}
use Rattle.geo_int.proofs.turns.sum_of_products.Goals as goal

pub overflow_mul-result : goal.overflow_mul-result
overflow_mul-result c =
    let p = (turn_fits c.args.first.now c.args.second.now c.requires.first c.requires.second).products in
    simp (to_z-of_z, p.first, p.second) (p.left)

pub overflow_mul-result-2 : goal.overflow_mul-result-2
overflow_mul-result-2 c =
    let p = (turn_fits c.args.first.now c.args.second.now c.requires.first c.requires.second).products in
    simp (to_z-of_z, p.third, p.fourth) (p.right)

pub overflow_add-result : goal.overflow_add-result
overflow_add-result c =
    let p = (turn_fits c.args.first.now c.args.second.now c.requires.first c.requires.second).products in
    simp (to_z-of_z, p.first, p.second, p.third, p.fourth, p.left, p.right) (p.sum)

pub returns-clause-exact : goal.returns-clause-exact
returns-clause-exact c =
    let p = (turn_fits c.args.first.now c.args.second.now c.requires.first c.requires.second).products in
    simp (to_z-of_z, p.first, p.second, p.third, p.fourth, p.left, p.right, p.sum) (refl)

pub returns-clause-within : goal.returns-clause-within
returns-clause-within c =
    let p = (turn_fits c.args.first.now c.args.second.now c.requires.first c.requires.second).products in
    simp (to_z-of_z, p.first, p.second, p.third, p.fourth, p.left, p.right, p.sum) (p.sum_le)
