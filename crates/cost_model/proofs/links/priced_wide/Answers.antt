use Rattle.std.proofs.Common.{◌≤◌, unsigned_abs, arith}
use Rattle.std.proofs.lemmas.Int.{ints, to_z-of_z}
use Rattle.cost_model.specs.Parts.{turn_price}
use Rattle.cost_model.proofs.LinkLemmas.{price_fits}
use Rattle.cost_model.proofs.links.priced_wide.Goals as goal

pub returns : goal.returns
unfolding turn_price
returns c =
    let low = c.requires.turncost.low in
    let high = c.requires.turncost.high in
    let size : unsigned_abs c.args.turncost ≤ 1000000000000000 = omega (arith, ints) in
    let f = price_fits c.args.turncost c.args.cosine size c.requires.cosine in
    record {
      exact = rw c.div_euclid.ensures
          (simp (to_z-of_z, c.ranges.turncost, c.ranges.cosine, f.cost, f.rest.0, f.rest.1, f.product, f.quotient) cc);
    }
