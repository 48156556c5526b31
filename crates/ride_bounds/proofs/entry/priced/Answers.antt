use Rattle.std.proofs.Common.{◌≡◌, pos, ◌-ℤ◌, ◌*ℤ◌, SFits}
use Rattle.std.specs.Int.{w128, int_div_euclid}
use Rattle.std.proofs.lemmas.Int.{to_z-of_z}
use Rattle.cost_model.specs.Parts.{turn_price}
use Rattle.ride_bounds.proofs.EntryLemmas.{price-fits}
use Rattle.ride_bounds.proofs.entry.priced.Goals as goal

pub returns : goal.returns
unfolding turn_price
returns c =
    let f = price-fits c.args.turncost c.args.cosine c.requires.turncost c.requires.low c.requires.high in
    let made : SFits w128 c.div_euclid.result = record { sfits = c.div_euclid.type_inv } in
    let e : c.div_euclid.result ≡ int_div_euclid (c.args.turncost *ℤ (pos 1000000 -ℤ c.args.cosine)) (pos 1000000) =
    simp (to_z-of_z, c.ranges.turncost, c.ranges.cosine, f.cost, f.rest, f.wide, f.product) at c.div_euclid.ensures in
    record { exact = simp (to_z-of_z, made) e }
