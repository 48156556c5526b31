use Rattle.std.proofs.Common.{◌≡◌, unsigned_abs, arith}
use Rattle.std.proofs.lemmas.Int.{to_z-of_z}
use Rattle.geo_int.proofs.SquareLemmas.{SquaresFit, squares_fit, square_sum-is}
use Rattle.geo_int.proofs.arrows.sum_of_squares.Goals as goal

fits : (c : goal.After-unsigned_abs-north) → SquaresFit c.unsigned_abs-east.result c.unsigned_abs-north.result
fits c = squares_fit _ _ c.unsigned_abs-east.ensures.bound c.unsigned_abs-north.ensures.bound

pub overflow_cast-east : goal.overflow_cast-east
overflow_cast-east c = record { fits = omega (arith, c.unsigned_abs-east.type_inv) }

pub overflow_cast-north : goal.overflow_cast-north
overflow_cast-north c = record { fits = omega (arith, c.unsigned_abs-north.type_inv) }

pub overflow_mul-result : goal.overflow_mul-result
overflow_mul-result c = (fits c).first

pub overflow_mul-result-2 : goal.overflow_mul-result-2
overflow_mul-result-2 c = (fits c).second

pub overflow_add-result : goal.overflow_add-result
overflow_add-result c = (fits c).sum

pub returns : goal.returns
returns c =
    let east : c.unsigned_abs-east.result ≡ unsigned_abs c.args.dx =
    simp (to_z-of_z, c.ranges.dx) at c.unsigned_abs-east.ensures.value in
    let north : c.unsigned_abs-north.result ≡ unsigned_abs c.args.dy =
    simp (to_z-of_z, c.ranges.dy) at c.unsigned_abs-north.ensures.value in
    record { exact = cc (square_sum-is c.args.dx c.args.dy, east, north) }
