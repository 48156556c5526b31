use Rattle.std.proofs.lemmas.Int.{to_z-of_z}
use Rattle.elev_buffer.specs.Covers.{terms}
use Rattle.elev_buffer.proofs.WordLemmas.{buffer-back, both_prices-fit, covered-test}
use Rattle.elev_buffer.proofs.orders.is_covered.Goals as goal

pub prices-requires-clause-down_rate : goal.prices-requires-clause-down_rate
prices-requires-clause-down_rate c = buffer-back _ c.requires.down_rate

pub prices-requires-clause-up_rate : goal.prices-requires-clause-up_rate
prices-requires-clause-up_rate c = buffer-back _ c.requires.up_rate

pub overflow_add-result : goal.overflow_add-result
overflow_add-result c = both_prices-fit _ _ c.requires.first_cost c.prices.ensures.within

pub returns-then-not-are_in_order : goal.returns-then-not-are_in_order
returns-then-not-are_in_order c =
    record { exact = (λ no. absurd (cc), λ is. c.if-not-are_in_order.ensures.exact.1 (is.down, is.up)) }

pub returns : goal.returns
returns c =
    record {
      exact = covered-test (terms c.args.modes.now c.args.kd c.args.ku) c.args.a.now c.args.b.now c.args.ca c.args.cb c.prices.result
          (simp (to_z-of_z, c.ranges.kd, c.ranges.ku) at c.prices.ensures.exact)
          (c.are_in_order.ensures.exact.0 c.if-not-are_in_order.false);
    }
