use Rattle.std.proofs.Common.{◌≡◌, SFits, w64}
use Rattle.std.specs.Int.{w128}
use Rattle.std.proofs.lemmas.Int.{to_z-of_z}
use Rattle.cost_model.specs.Parts.{factor_of, per_metre}
use Rattle.cost_model.proofs.FactorLemmas.{least-distance, moves-with_weights}
use Rattle.cost_model.proofs.distance.distance_part.Goals as goal

pub returns-clause-least : goal.returns-clause-least
returns-clause-least c =
    let made : SFits w64 c.factor.result = record { sfits = c.factor.type_inv } in
    let whole : SFits w128 c.along.result = record { sfits = c.along.type_inv } in
    let e : c.factor.result ≡ factor_of c.args.facts.now c.args.down c.args.up =
    simp (to_z-of_z, c.ranges.down, c.ranges.up) at c.factor.ensures.exact in
    let g : c.along.result ≡ per_metre c.args.facts.now.arrow.len c.factor.result =
    simp (to_z-of_z, made) at c.along.ensures.exact in
    simp (to_z-of_z, whole)
    (rw (g, e) (least-distance c.args.facts.now c.args.down c.args.up c.requires.down c.requires.up))

pub returns-clause-moves : goal.returns-clause-moves
returns-clause-moves c = moves-with_weights c.args.facts.now
