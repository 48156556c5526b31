use Rattle.std.proofs.Common.{◌≡◌, pos, to_z, refl, w64, arith}
use Rattle.std.specs.Int.{w128}
use Rattle.std.proofs.lemmas.Int.{to_z-of_z, to_z_pos, fits_signed_from_abs}
use Rattle.geo_int.proofs.TurnLemmas.{divided_fits, small_divided_fits}
use Rattle.geo_int.proofs.turns.divided.Goals as goal

pub overflow_mul-result : goal.overflow_mul-result
overflow_mul-result c =
    let fits = small_divided_fits c.args.dot c.args.lengths c.requires.positive c.requires.lengths
    (simp (to_z-of_z, c.ranges.dot) at c.if-dot-geminus9000000000000.true)
    (simp (to_z-of_z, c.ranges.dot) at c.if-dot-le9000000000000.true) in
    simp (to_z-of_z, c.ranges.dot) (fits.product)

pub overflow_cast-result : goal.overflow_cast-result
overflow_cast-result c = fits_signed_from_abs w64 _ (omega (arith, c.requires.lengths))

pub nonzero_div-result : goal.nonzero_div-result
nonzero_div-result c =
    let fits = small_divided_fits c.args.dot c.args.lengths c.requires.positive c.requires.lengths
    (simp (to_z-of_z, c.ranges.dot) at c.if-dot-geminus9000000000000.true)
    (simp (to_z-of_z, c.ranges.dot) at c.if-dot-le9000000000000.true) in
    (c.requires.positive, simp (to_z-of_z, c.ranges.dot, fits.lengths_is, fits.product) (fits.quotient))

pub returns-then-dot-le9000000000000 : goal.returns-then-dot-le9000000000000
returns-then-dot-le9000000000000 c =
    let fits = small_divided_fits c.args.dot c.args.lengths c.requires.positive c.requires.lengths
    (simp (to_z-of_z, c.ranges.dot) at c.if-dot-geminus9000000000000.true)
    (simp (to_z-of_z, c.ranges.dot) at c.if-dot-le9000000000000.true) in
    simp (to_z-of_z, c.ranges.dot, fits.lengths_is, fits.product, fits.quotient) (record { exact = refl })

pub overflow_cast-result-else-dot-geminus9000000000000 : goal.overflow_cast-result-else-dot-geminus9000000000000
overflow_cast-result-else-dot-geminus9000000000000 c =
    let fits = divided_fits c.args.dot c.args.lengths c.requires.positive c.requires.lengths c.requires.within in
    simp (to_z-of_z, c.ranges.dot) (fits.wide)

pub overflow_mul-result-else-dot-geminus9000000000000 : goal.overflow_mul-result-else-dot-geminus9000000000000
overflow_mul-result-else-dot-geminus9000000000000 c =
    let fits = divided_fits c.args.dot c.args.lengths c.requires.positive c.requires.lengths c.requires.within in
    simp (to_z-of_z, c.ranges.dot, fits.wide) (fits.product)

pub overflow_cast-result-else-dot-geminus9000000000000-2 : goal.overflow_cast-result-else-dot-geminus9000000000000-2
overflow_cast-result-else-dot-geminus9000000000000-2 c = fits_signed_from_abs w128 _ (omega (arith, c.requires.lengths))

pub nonzero_div-result-else-dot-geminus9000000000000 : goal.nonzero_div-result-else-dot-geminus9000000000000
nonzero_div-result-else-dot-geminus9000000000000 c =
    let fits = divided_fits c.args.dot c.args.lengths c.requires.positive c.requires.lengths c.requires.within in
    let lengths : to_z w128 c.args.lengths ≡ pos c.args.lengths = to_z_pos w128 _ (omega (arith, c.requires.lengths)) in
    (c.requires.positive, simp (to_z-of_z, c.ranges.dot, lengths, fits.wide, fits.product) (fits.whole))

pub overflow_cast-result-else-dot-geminus9000000000000-3 : goal.overflow_cast-result-else-dot-geminus9000000000000-3
overflow_cast-result-else-dot-geminus9000000000000-3 c =
    let fits = divided_fits c.args.dot c.args.lengths c.requires.positive c.requires.lengths c.requires.within in
    let lengths : to_z w128 c.args.lengths ≡ pos c.args.lengths = to_z_pos w128 _ (omega (arith, c.requires.lengths)) in
    simp (to_z-of_z, c.ranges.dot, lengths, fits.wide, fits.product, fits.whole) (fits.back)

pub returns-else-dot-geminus9000000000000 : goal.returns-else-dot-geminus9000000000000
returns-else-dot-geminus9000000000000 c =
    let fits = divided_fits c.args.dot c.args.lengths c.requires.positive c.requires.lengths c.requires.within in
    let lengths : to_z w128 c.args.lengths ≡ pos c.args.lengths = to_z_pos w128 _ (omega (arith, c.requires.lengths)) in
    simp (to_z-of_z, lengths, c.ranges.dot, fits.wide, fits.product, fits.whole, fits.back) (record { exact = refl })
