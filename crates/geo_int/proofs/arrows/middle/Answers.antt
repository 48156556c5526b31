use Rattle.std.proofs.Common.{◌≡◌, SFits, w64, ◌+ℤ◌, pos, arith}
use Rattle.std.specs.Int.{int_div_euclid}
use Rattle.std.proofs.lemmas.Int.{to_z-of_z}
use Rattle.geo_int.specs.Arrow.{middle_latitude}
use Rattle.geo_int.proofs.PartLemmas.{PairFits, pair_fits, latitude_le}
use Rattle.geo_int.proofs.arrows.middle.Goals as goal

pair : (c : goal.After-lat-2) → PairFits c.lat.result c.lat-2.result
pair c = pair_fits _ _ (omega (arith, latitude_le c.args.a c.lat.result c.lat.ensures.value))
    (omega (arith, latitude_le c.args.b c.lat-2.result c.lat-2.ensures.value))

pub overflow_add-lat : goal.overflow_add-lat
overflow_add-lat c =
    let pair = pair c in
    simp (to_z-of_z, pair.first, pair.second) pair.sum

pub returns-clause-exact : goal.returns-clause-exact
unfolding middle_latitude
returns-clause-exact c =
    let pair = pair_fits c.lat.result c.lat-2.result (omega (arith, latitude_le c.args.a c.lat.result c.lat.ensures.value))
    (omega (arith, latitude_le c.args.b c.lat-2.result c.lat-2.ensures.value)) in
    let half : SFits w64 c.div_euclid.result = record { sfits = c.div_euclid.type_inv } in
    let e : c.div_euclid.result ≡ int_div_euclid (c.lat.result +ℤ c.lat-2.result) (pos 2) =
    simp (to_z-of_z, pair.first, pair.second, pair.sum) at c.div_euclid.ensures in
    simp (to_z-of_z, half) (cc)
