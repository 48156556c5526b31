use Rattle.std.proofs.Common.{◌∙◌, SFits, w64}
use Rattle.std.proofs.lemmas.Int.{to_z-of_z}
use Rattle.elev_buffer.proofs.WordLemmas.{share_fits, small_part-fits}
use Rattle.elev_buffer.proofs.steps.share.Goals as goal

pub overflow_mul-result : goal.overflow_mul-result
overflow_mul-result c =
    let product = small_part-fits c.args.part c.requires.part (simp (to_z-of_z, c.ranges.part) at c.if-part-le9000000000000.true) in
    simp (to_z-of_z, c.ranges.part) (product)

pub nonzero_div-result : goal.nonzero_div-result
nonzero_div-result c =
    let fits = share_fits c.args.part c.args.whole c.ranges.part c.ranges.whole c.requires.part c.requires.less in
    let product = small_part-fits c.args.part c.requires.part (simp (to_z-of_z, c.ranges.part) at c.if-part-le9000000000000.true) in
    (fits.some_word, simp (to_z-of_z, c.ranges.part, c.ranges.whole, product) (fits.back))

pub returns-then-part-le9000000000000 : goal.returns-then-part-le9000000000000
returns-then-part-le9000000000000 c =
    let fits = share_fits c.args.part c.args.whole c.ranges.part c.ranges.whole c.requires.part c.requires.less in
    let product = small_part-fits c.args.part c.requires.part (simp (to_z-of_z, c.ranges.part) at c.if-part-le9000000000000.true) in
    simp (to_z-of_z, c.ranges.part, c.ranges.whole, product, fits.back) (record { exact = fits.exact })

pub share_wide-requires-clause-part : goal.share_wide-requires-clause-part
share_wide-requires-clause-part c = simp (to_z-of_z, c.ranges.part) (c.requires.part)

pub share_wide-requires-clause-less : goal.share_wide-requires-clause-less
share_wide-requires-clause-less c = simp (to_z-of_z, c.ranges.part, c.ranges.whole) (c.requires.less)

pub returns-else-part-le9000000000000 : goal.returns-else-part-le9000000000000
returns-else-part-le9000000000000 c =
    let made : SFits w64 c.share_wide.result = record { sfits = c.share_wide.type_inv } in
    record { exact = to_z-of_z w64 _ made ∙ simp (to_z-of_z, c.ranges.part, c.ranges.whole) at c.share_wide.ensures.exact }
