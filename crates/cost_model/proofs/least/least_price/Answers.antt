use Rattle.std.proofs.Common.{◌≡◌, ◌+ℤ◌, ap, ◌∙◌, SFits, arith}
use Rattle.std.specs.Int.{w128}
use Rattle.std.proofs.lemmas.Int.{ints, to_z-of_z, fits_signed_from_abs}
use Rattle.cost_model.specs.Parts.{counted, least_distance}
use Rattle.cost_model.proofs.NumberLemmas.{cost-fits, cost-wide}
use Rattle.cost_model.proofs.LeastLemmas.{least_price-is}
use Rattle.cost_model.proofs.least.least_price.Goals as goal

pub returns-clause-exact : goal.returns-clause-exact
returns-clause-exact c =
    let d : SFits w128 c.distance.result = record { sfits = c.distance.type_inv } in
    let t : SFits w128 c.twice.result = record { sfits = c.twice.type_inv } in
    let low = c.twice.ensures.low in
    let high = c.twice.ensures.high in
    let cost = c.requires.facts.charge in
    let charge = c.args.facts.now.charge in
    let cl = cost.low in
    let ch = cost.high in
    let sum : SFits w128 (c.twice.result +ℤ charge) = fits_signed_from_abs w128 _ (omega (arith, ints)) in
    let made = simp (to_z-of_z, d) at c.twice.ensures.exact in
    let e : c.twice.result ≡ counted c.args.used (least_distance c.args.facts.now) = made
    ∙ ap (counted c.args.used) c.distance.ensures.exact in
    simp (to_z-of_z, t, cost-fits _ cost, cost-wide _ cost, sum) (least_price-is c.args.used c.args.facts.now c.twice.result e)
