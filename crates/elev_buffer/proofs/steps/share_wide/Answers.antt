use Rattle.std.proofs.lemmas.Int.{to_z-of_z}
use Rattle.elev_buffer.proofs.WordLemmas.{share_fits}
use Rattle.elev_buffer.proofs.steps.share_wide.Goals as goal

pub overflow_cast-result : goal.overflow_cast-result
overflow_cast-result c =
    let fits = share_fits c.args.part c.args.whole c.ranges.part c.ranges.whole c.requires.part c.requires.less in
    simp (to_z-of_z, c.ranges.part) (fits.wide_part)

pub overflow_mul-result : goal.overflow_mul-result
overflow_mul-result c =
    let fits = share_fits c.args.part c.args.whole c.ranges.part c.ranges.whole c.requires.part c.requires.less in
    simp (to_z-of_z, c.ranges.part, fits.wide_part) (fits.product)

pub overflow_cast-result-2 : goal.overflow_cast-result-2
overflow_cast-result-2 c =
    let fits = share_fits c.args.part c.args.whole c.ranges.part c.ranges.whole c.requires.part c.requires.less in
    simp (to_z-of_z, c.ranges.whole) (fits.wide_whole)

pub nonzero_div-result : goal.nonzero_div-result
nonzero_div-result c =
    let fits = share_fits c.args.part c.args.whole c.ranges.part c.ranges.whole c.requires.part c.requires.less in (
      simp (to_z-of_z, c.ranges.whole) (fits.some),
      simp (to_z-of_z, c.ranges.part, c.ranges.whole, fits.wide_part, fits.wide_whole, fits.product) (fits.wide),
    )

pub overflow_cast-result-3 : goal.overflow_cast-result-3
overflow_cast-result-3 c =
    let fits = share_fits c.args.part c.args.whole c.ranges.part c.ranges.whole c.requires.part c.requires.less in
    simp (to_z-of_z, c.ranges.part, c.ranges.whole, fits.wide_part, fits.wide_whole, fits.product, fits.wide) (fits.back)

pub returns : goal.returns
returns c =
    let fits = share_fits c.args.part c.args.whole c.ranges.part c.ranges.whole c.requires.part c.requires.less in
    simp (to_z-of_z, c.ranges.part, c.ranges.whole, fits.wide_part, fits.wide_whole, fits.product, fits.wide, fits.back)
    (record { exact = fits.exact })
