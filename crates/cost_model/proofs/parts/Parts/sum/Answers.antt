use Rattle.std.proofs.lemmas.Int.{to_z-of_z}
use Rattle.cost_model.proofs.NumberLemmas.{sum_fits}
use Rattle.cost_model.proofs.parts.Parts.sum.Goals as goal

pub overflow_add-result-4 : goal.overflow_add-result-4
overflow_add-result-4 c =
    let s = sum_fits c.args.self.now c.requires.paid in
    simp (to_z-of_z, s.distance, s.turn, s.initial, s.node, s.elevation, s.two, s.three, s.four) s.five

pub returns-clause-exact : goal.returns-clause-exact
returns-clause-exact c =
    let s = sum_fits c.args.self.now c.requires.paid in
    simp (to_z-of_z, s.distance, s.turn, s.initial, s.node, s.elevation, s.two, s.three, s.four, s.five) cc

pub returns-clause-low : goal.returns-clause-low
returns-clause-low c =
    let s = sum_fits c.args.self.now c.requires.paid in
    simp (to_z-of_z, s.distance, s.turn, s.initial, s.node, s.elevation, s.two, s.three, s.four, s.five) s.low

pub returns-clause-high : goal.returns-clause-high
returns-clause-high c =
    let s = sum_fits c.args.self.now c.requires.paid in
    simp (to_z-of_z, s.distance, s.turn, s.initial, s.node, s.elevation, s.two, s.three, s.four, s.five) c.requires.paid.below
