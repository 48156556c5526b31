use Rattle.std.proofs.Common.{◌≡◌, ap, ◌∙◌, SFits, w64}
use Rattle.std.specs.Int.{w128}
use Rattle.std.proofs.lemmas.Int.{to_z-of_z}
use Rattle.cost_model.specs.Parts.{per_metre, least_distance}
use Rattle.cost_model.proofs.LeastLemmas.{least_distance-low, least_distance-high}
use Rattle.cost_model.proofs.least.distance.Goals as goal

-- what comes along the link is the low form
is : (c : goal.After-along) → c.along.result ≡ least_distance c.args.facts.now
is c =
    let made : SFits w64 c.factor.result = record { sfits = c.factor.type_inv } in
    let length = c.args.facts.now.arrow.len in
    let e : c.along.result ≡ per_metre length c.factor.result = simp (to_z-of_z, made) at c.along.ensures.exact in
    e ∙ ap (per_metre length) c.factor.ensures.exact

pub returns-clause-low : goal.returns-clause-low
returns-clause-low c =
    let whole : SFits w128 c.along.result = record { sfits = c.along.type_inv } in
    simp (to_z-of_z, whole) (rw (is c) (least_distance-low c.args.facts.now c.requires.facts))

pub returns-clause-high : goal.returns-clause-high
returns-clause-high c =
    let whole : SFits w128 c.along.result = record { sfits = c.along.type_inv } in
    simp (to_z-of_z, whole) (rw (is c) (least_distance-high c.args.facts.now c.requires.facts))
