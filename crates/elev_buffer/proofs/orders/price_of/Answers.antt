use Rattle.std.proofs.Common.{◌∙◌, ap, sym, rules}
use Rattle.std.proofs.lemmas.Int.{to_z-of_z}
use Rattle.elev_buffer.specs.Covers.{price}
use Rattle.elev_buffer.proofs.WordLemmas.{PriceFits, price_fits}
use Rattle.elev_buffer.proofs.orders.price_of.Goals as goal

-- the product is computed exactly
fits : (c : goal.Then-first-second) → PriceFits c.args.rate c.args.first c.args.second
fits c = price_fits _ _ _ c.requires.rate c.requires.first c.requires.second
    (simp (to_z-of_z, c.ranges.first, c.ranges.second) at c.if-first-second.true)

pub overflow_sub-result : goal.overflow_sub-result
overflow_sub-result c = simp (to_z-of_z, c.ranges.first, c.ranges.second) (fits c).more

pub overflow_cast-result : goal.overflow_cast-result
overflow_cast-result c = simp (to_z-of_z, c.ranges.rate) (search rules, (fits c).product.rate_fits)

pub overflow_mul-result : goal.overflow_mul-result
overflow_mul-result c =
    let is = fits c in
    simp (to_z-of_z, c.ranges.rate, c.ranges.first, c.ranges.second, is.more) is.product.product

pub returns-in-Compensated : goal.returns-in-Compensated
returns-in-Compensated c =
    let is = fits c in
    simp (to_z-of_z, c.ranges.rate, c.ranges.first, c.ranges.second, is.more) (record {
      exact = is.exact ∙ ap (λ mode. price mode c.args.rate c.args.first c.args.second) (sym c.in-Compensated.is);
      within = is.product.within;
    })
