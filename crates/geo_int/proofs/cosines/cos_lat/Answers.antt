use Rattle.std.proofs.Common.{◌≡◌, ◌<◌, ◌^◌, ◌∙◌, ap, pos, w64, unsigned_abs, arith}
use Rattle.std.proofs.lemmas.Int.{to_z-of_z, to_z_pos}
use Rattle.geo_int.proofs.AngleLemmas.{AngleFits, angle_fits}
use Rattle.geo_int.specs.Cosine.{cosine_at, cosine_series, squared, radians, series_term}
use Rattle.geo_int.proofs.cosines.cos_lat.Goals as goal

pub returns-clause-exact : goal.returns-clause-exact
unfolding cosine_at cosine_series squared radians series_term
returns-clause-exact c =
    let angle : c.unsigned_abs.result ≡ unsigned_abs c.args.lat = simp (to_z-of_z, c.ranges.lat) at c.unsigned_abs.ensures.value in
    let is : c.saturating_sub.result ≡ cosine_at c.args.lat = cc in
    let small : c.saturating_sub.result < 2 ^ 63 = omega arith in
    to_z_pos w64 _ small ∙ ap pos is

pub returns-clause-within : goal.returns-clause-within
unfolding cosine_at cosine_series series_term
returns-clause-within c = omega arith

fits : (c : goal.After-unsigned_abs) → AngleFits c.unsigned_abs.result
fits c = angle_fits _ c.args.lat (simp (to_z-of_z, c.ranges.lat) at c.unsigned_abs.ensures.value) c.requires.on_globe

pub overflow_mul-angle : goal.overflow_mul-angle
overflow_mul-angle c = (fits c).product

pub overflow_mul-square : goal.overflow_mul-square
overflow_mul-square c = (fits c).square

pub overflow_sub-fourth : goal.overflow_sub-fourth
overflow_sub-fourth c = (fits c).part
