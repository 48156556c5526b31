use Rattle.std.proofs.Common.{◌≡◌}
use Rattle.std.proofs.lemmas.Int.{to_z-of_z}
use Rattle.cost_model.specs.Parts.{per_metre}
use Rattle.cost_model.proofs.LinkLemmas.{slope_fits}
use Rattle.cost_model.proofs.elevation.slope.Goals as goal

-- what was computed is what the slope comes to
computed : (c : goal.After-along) → c.along.result ≡ per_metre c.args.facts.now.arrow.len c.args.rate
computed c = simp (to_z-of_z, c.ranges.rate) at c.along.ensures.exact

pub overflow_cast-result : goal.overflow_cast-result
overflow_cast-result c =
    let f = slope_fits c.args.facts.now.arrow.len c.args.rate c.requires.facts.arrow.short c.requires.rate in
    rw (computed c) (simp (to_z-of_z, f.wide) f.narrow)

pub returns-clause-exact : goal.returns-clause-exact
returns-clause-exact c =
    let f = slope_fits c.args.facts.now.arrow.len c.args.rate c.requires.facts.arrow.short c.requires.rate in
    rw (computed c) (simp (to_z-of_z, f.wide, f.narrow) cc)

pub returns-clause-low : goal.returns-clause-low
returns-clause-low c =
    let f = slope_fits c.args.facts.now.arrow.len c.args.rate c.requires.facts.arrow.short c.requires.rate in
    rw (computed c) (simp (to_z-of_z, f.wide, f.narrow) f.low)

pub returns-clause-high : goal.returns-clause-high
returns-clause-high c =
    let f = slope_fits c.args.facts.now.arrow.len c.args.rate c.requires.facts.arrow.short c.requires.rate in
    rw (computed c) (simp (to_z-of_z, f.wide, f.narrow) f.high)
