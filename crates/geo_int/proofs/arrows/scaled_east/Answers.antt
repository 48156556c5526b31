use Rattle.std.proofs.Common.{refl}
use Rattle.std.proofs.lemmas.Int.{to_z-of_z}
use Rattle.geo_int.specs.Arrow.{east_part}
use Rattle.geo_int.proofs.QuotientLemmas.{east_part_le, wide_fits, small_fits}
use Rattle.geo_int.proofs.arrows.scaled_east.Goals as goal

pub overflow_mul-result : goal.overflow_mul-result
overflow_mul-result c =
    let fits = small_fits c.args.degrees c.args.cosine (simp (to_z-of_z, c.ranges.degrees) at c.if-degrees-geminus800000.true)
    (simp (to_z-of_z, c.ranges.degrees) at c.if-degrees-le800000.true) c.requires.cosine in
    simp (to_z-of_z, c.ranges.degrees) (fits.part)

pub overflow_mul-result-then-degrees-le800000 : goal.overflow_mul-result-then-degrees-le800000
overflow_mul-result-then-degrees-le800000 c =
    let fits = small_fits c.args.degrees c.args.cosine (simp (to_z-of_z, c.ranges.degrees) at c.if-degrees-geminus800000.true)
    (simp (to_z-of_z, c.ranges.degrees) at c.if-degrees-le800000.true) c.requires.cosine in
    simp (to_z-of_z, c.ranges.degrees, c.ranges.cosine, fits.part) (fits.product)

pub overflow_cast-result : goal.overflow_cast-result
overflow_cast-result c =
    let fits = wide_fits c.args.degrees c.args.cosine c.requires.degrees c.requires.cosine in
    simp (to_z-of_z, c.ranges.degrees) (fits.left)

pub overflow_mul-result-else-degrees-geminus800000 : goal.overflow_mul-result-else-degrees-geminus800000
overflow_mul-result-else-degrees-geminus800000 c =
    let fits = wide_fits c.args.degrees c.args.cosine c.requires.degrees c.requires.cosine in
    simp (to_z-of_z, c.ranges.degrees, fits.left) (fits.part)

pub overflow_cast-result-else-degrees-geminus800000 : goal.overflow_cast-result-else-degrees-geminus800000
overflow_cast-result-else-degrees-geminus800000 c =
    let fits = wide_fits c.args.degrees c.args.cosine c.requires.degrees c.requires.cosine in
    simp (to_z-of_z, c.ranges.cosine) (fits.right)

pub overflow_mul-result-else-degrees-geminus800000-2 : goal.overflow_mul-result-else-degrees-geminus800000-2
overflow_mul-result-else-degrees-geminus800000-2 c =
    let fits = wide_fits c.args.degrees c.args.cosine c.requires.degrees c.requires.cosine in
    simp (to_z-of_z, c.ranges.degrees, c.ranges.cosine, fits.left, fits.right, fits.part) (fits.product)

pub overflow_cast-result-else-degrees-geminus800000-2 : goal.overflow_cast-result-else-degrees-geminus800000-2
overflow_cast-result-else-degrees-geminus800000-2 c =
    let fits = wide_fits c.args.degrees c.args.cosine c.requires.degrees c.requires.cosine in
    simp (to_z-of_z, c.ranges.degrees, c.ranges.cosine, fits.left, fits.right, fits.part, fits.product, fits.quotient)
    (fits.back)

pub returns-then-degrees-le800000-clause-exact : goal.returns-then-degrees-le800000-clause-exact
unfolding east_part
returns-then-degrees-le800000-clause-exact c =
    let fits = small_fits c.args.degrees c.args.cosine (simp (to_z-of_z, c.ranges.degrees) at c.if-degrees-geminus800000.true)
    (simp (to_z-of_z, c.ranges.degrees) at c.if-degrees-le800000.true) c.requires.cosine in
    simp (to_z-of_z, c.ranges.degrees, c.ranges.cosine, fits.part, fits.product, fits.quotient) (refl)

pub returns-then-degrees-le800000-clause-within : goal.returns-then-degrees-le800000-clause-within
unfolding east_part
returns-then-degrees-le800000-clause-within c =
    let fits = small_fits c.args.degrees c.args.cosine (simp (to_z-of_z, c.ranges.degrees) at c.if-degrees-geminus800000.true)
    (simp (to_z-of_z, c.ranges.degrees) at c.if-degrees-le800000.true) c.requires.cosine in
    simp (to_z-of_z, c.ranges.degrees, c.ranges.cosine, fits.part, fits.product, fits.quotient)
    (east_part_le c.args.degrees c.args.cosine c.requires.degrees c.requires.cosine)

pub returns-else-degrees-geminus800000-clause-exact : goal.returns-else-degrees-geminus800000-clause-exact
unfolding east_part
returns-else-degrees-geminus800000-clause-exact c =
    let fits = wide_fits c.args.degrees c.args.cosine c.requires.degrees c.requires.cosine in
    simp (to_z-of_z, c.ranges.degrees, c.ranges.cosine, fits.left, fits.right, fits.part, fits.product, fits.quotient, fits.back)
    (refl)

pub returns-else-degrees-geminus800000-clause-within : goal.returns-else-degrees-geminus800000-clause-within
unfolding east_part
returns-else-degrees-geminus800000-clause-within c =
    let fits = wide_fits c.args.degrees c.args.cosine c.requires.degrees c.requires.cosine in
    simp (to_z-of_z, c.ranges.degrees, c.ranges.cosine, fits.left, fits.right, fits.part, fits.product, fits.quotient, fits.back)
    (east_part_le c.args.degrees c.args.cosine c.requires.degrees c.requires.cosine)
