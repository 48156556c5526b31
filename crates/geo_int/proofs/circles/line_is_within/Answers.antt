use Rattle.std.proofs.Common.{◌≡◌, pos, to_z, SFits, w64, arith}
use Rattle.std.proofs.lemmas.Int.{to_z-of_z, to_z_pos, fits_signed_from_abs}
use Rattle.geo_int.proofs.StepLemmas.{line_touches-computed}
use Rattle.geo_int.proofs.circles.line_is_within.Goals as goal

pub overflow_cast-square : goal.overflow_cast-square
overflow_cast-square c = fits_signed_from_abs w64 _ (omega (arith, c.requires.square))

pub is_square_within-requires-clause-area : goal.is_square_within-requires-clause-area
is_square_within-requires-clause-area c =
    let area : SFits w64 c.area.result = fits_signed_from_abs w64 _ (omega (arith, c.area.ensures.within)) in
    simp (to_z-of_z, area) (c.area.ensures.within)

pub is_square_within-requires-clause-reach : goal.is_square_within-requires-clause-reach
is_square_within-requires-clause-reach c =
    let square : to_z w64 c.args.square ≡ pos c.args.square = to_z_pos w64 _ (omega (arith, c.requires.square)) in
    simp square (c.requires.square)

pub is_square_within-requires-clause-base : goal.is_square_within-requires-clause-base
is_square_within-requires-clause-base c =
    let way : SFits w64 c.square_of_way.result = fits_signed_from_abs w64 _ (omega (arith, c.square_of_way.ensures.within)) in
    simp (to_z-of_z, way) (c.square_of_way.ensures.within)

pub returns : goal.returns
returns c =
    let area : SFits w64 c.area.result = fits_signed_from_abs w64 _ (omega (arith, c.area.ensures.within)) in
    let way : SFits w64 c.square_of_way.result = fits_signed_from_abs w64 _ (omega (arith, c.square_of_way.ensures.within)) in
    let square : to_z w64 c.args.square ≡ pos c.args.square = to_z_pos w64 _ (omega (arith, c.requires.square)) in
    record {
      exact = line_touches-computed c.args.a c.args.b c.args.square c.area.result c.square_of_way.result c.is_square_within.result
          c.area.ensures.exact c.square_of_way.ensures.exact (simp (to_z-of_z, area, way, square) at c.is_square_within.ensures.exact);
    }
