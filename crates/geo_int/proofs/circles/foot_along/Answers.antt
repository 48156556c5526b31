use Rattle.std.proofs.lemmas.Int.{to_z-of_z}
use Rattle.geo_int.proofs.StepLemmas.{within_twice, sum_fits, foot-computed}
use Rattle.geo_int.proofs.circles.foot_along.Goals as goal

pub product-requires-clause-a : goal.product-requires-clause-a
product-requires-clause-a c = within_twice c.args.a c.requires.a

pub product-requires-clause-b : goal.product-requires-clause-b
product-requires-clause-b c = c.step.ensures.within

pub overflow_sub-result : goal.overflow_sub-result
overflow_sub-result c =
    let fits = sum_fits c.product.result c.product.ensures.within in
    simp (to_z-of_z, fits.whole) (fits.back)

pub returns : goal.returns
returns c =
    let fits = sum_fits c.product.result c.product.ensures.within in
    simp (to_z-of_z, fits.whole, fits.back)
    (record { exact = foot-computed c.args.a c.args.b c.step.result c.product.result c.step.ensures.exact c.product.ensures.exact })
