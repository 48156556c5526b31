use Rattle.std.proofs.Common.{refl}
use Rattle.std.proofs.lemmas.Int.{to_z-of_z}
use Rattle.geo_int.proofs.StepLemmas.{step_fits}
use Rattle.geo_int.proofs.circles.step.Goals as goal

pub overflow_sub-result : goal.overflow_sub-result
overflow_sub-result c =
    let p = step_fits c.args.a c.args.b c.requires.a c.requires.b in
    simp (to_z-of_z, p.first_east, p.second_east) (p.east)

pub overflow_sub-result-2 : goal.overflow_sub-result-2
overflow_sub-result-2 c =
    let p = step_fits c.args.a c.args.b c.requires.a c.requires.b in
    simp (to_z-of_z, p.first_north, p.second_north) (p.north)

pub returns-clause-exact : goal.returns-clause-exact
returns-clause-exact c =
    let p = step_fits c.args.a c.args.b c.requires.a c.requires.b in
    simp (to_z-of_z, p.first_east, p.first_north, p.second_east, p.second_north, p.east, p.north) (refl)

pub returns-clause-within : goal.returns-clause-within
returns-clause-within c =
    let p = step_fits c.args.a c.args.b c.requires.a c.requires.b in
    simp (to_z-of_z, p.first_east, p.first_north, p.second_east, p.second_north, p.east, p.north) (p.within)
