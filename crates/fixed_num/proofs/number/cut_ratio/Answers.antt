use Rattle.fixed_num.proofs.QuotientLemmas.{narrow_ratio_is, wide_ratio_safe, wide_ratio_is}
use Rattle.fixed_num.proofs.number.cut_ratio.Goals as goal

pub nonzero_div-result : goal.nonzero_div-result
nonzero_div-result c =
    wide_ratio_safe _ _ _ _ _ _ c.ranges.a c.ranges.b c.ranges.divisor c.requires.first c.requires.second
    c.from-in_default.ensures c.from-in_default-2.ensures c.from-in_default-3.ensures c.requires.nonzero

pub returns-in-Some : goal.returns-in-Some
returns-in-Some c =
    let is = narrow_ratio_is _ _ _ _ _ c.ranges.a c.ranges.b c.ranges.divisor c.in-Some.ensures.0 c.in-Some.ensures.1
    c.if-product-gtminus9223372036854775808.true c.from.ensures in
    record { exact = is }

pub returns-in_default : goal.returns-in_default
returns-in_default c =
    let is = wide_ratio_is _ _ _ _ _ _ c.ranges.a c.ranges.b c.ranges.divisor c.requires.first c.requires.second
    c.from-in_default.ensures c.from-in_default-2.ensures c.from-in_default-3.ensures in
    record { exact = is }
