use Rattle.std.proofs.Common.{◌≡◌, rules, SFits, w64, ◌-ℤ◌, pos}
use Rattle.std.proofs.lemmas.Int.{to_z-of_z}
use Rattle.geo_int.specs.Arrow.{east_between, east_part}
use Rattle.geo_int.specs.Cosine.{cosine_at}
use Rattle.geo_int.proofs.PartLemmas.{longitude_le, pair_fits}
use Rattle.geo_int.proofs.arrows.east.Goals as goal

pub returns-clause-exact : goal.returns-clause-exact
unfolding east_between
returns-clause-exact c =
    let pair = pair_fits c.lon.result c.lon-2.result (longitude_le c.args.b c.lon.result c.lon.ensures.value)
    (longitude_le c.args.a c.lon-2.result c.lon-2.ensures.value) in
    let middle : SFits w64 c.middle.result = search rules in
    let cosine : SFits w64 c.cos_lat.result = search rules in
    let east : SFits w64 c.scaled_east.result = search rules in
    let e : c.scaled_east.result ≡ east_part (c.lon.result -ℤ c.lon-2.result) c.cos_lat.result =
    simp (to_z-of_z, pair.first, pair.second, pair.difference, cosine) at c.scaled_east.ensures.exact in
    let f : c.cos_lat.result ≡ pos (cosine_at c.middle.result) = simp (to_z-of_z, middle) at c.cos_lat.ensures.exact in
    simp (to_z-of_z, east) (cc (c.middle.ensures.exact, c.lon.ensures.value, c.lon-2.ensures.value))
