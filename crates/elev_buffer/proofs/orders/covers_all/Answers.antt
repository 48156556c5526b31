use Rattle.std.proofs.Common.{◌∙◌, sym}
use Rattle.std.proofs.lemmas.Int.{to_z-of_z}
use Rattle.elev_buffer.proofs.AllLemmas.{all-from-empty, empty-from-all, none-where-equal}
use Rattle.elev_buffer.proofs.orders.covers_all.Goals as goal

pub returns-then-asks_equal : goal.returns-then-asks_equal
returns-then-asks_equal c =
    record {
      exact = (
        λ no. absurd (cc),
        λ all. absurd (none-where-equal _ _ _ (sym c.asks_equal.ensures.exact ∙ c.if-asks_equal.true) all),
      );
    }

pub returns : goal.returns
returns c =
    let is = simp (to_z-of_z, c.ranges.kd, c.ranges.ku) at c.is_covered.ensures.exact in
    record {
      exact = (
        λ h. all-from-empty _ _ _ c.requires.down_rate.low c.requires.up_rate.low
            (sym c.asks_equal.ensures.exact ∙ c.if-asks_equal.false) (is.0 h),
        λ all. is.1 (empty-from-all _ _ _ all),
      );
    }
