use Rattle.std.proofs.lemmas.Int.{to_z-of_z}
use Rattle.elev_buffer.proofs.NewerLemmas.{sums-test, buffer-fits}
use Rattle.elev_buffer.proofs.WordLemmas.{buffer-back, one_price-fits, two_prices-fit}
use Rattle.elev_buffer.proofs.newer.are_sums_below.Goals as goal

pub returns : goal.returns
returns c =
    let p = c.requires.first in
    let q = c.requires.second in
    let ad = simp (to_z-of_z, c.ranges.kd, buffer-fits _ p.down) at c.price-a_down.ensures.exact in
    let bd = simp (to_z-of_z, c.ranges.kd, buffer-fits _ q.down) at c.price-b_down.ensures.exact in
    let au = simp (to_z-of_z, c.ranges.ku, buffer-fits _ p.up) at c.price-a_up.ensures.exact in
    let bu = simp (to_z-of_z, c.ranges.ku, buffer-fits _ q.up) at c.price-b_up.ensures.exact in
    let down = simp (to_z-of_z, c.ranges.kd) at c.is_below.ensures.exact in
    let up = simp (to_z-of_z, c.ranges.ku) at c.is_below-2.ensures.exact in
    let both = simp (to_z-of_z, c.ranges.kd, c.ranges.ku) at c.is_below-3.ensures.exact in
    record {
      exact = sums-test _ _ _ _ _ _ _ _ _ _ _ _ _ (record { down = ad; up = au }) (record { down = bd; up = bu }) down up both;
    }

pub overflow_add-ca : goal.overflow_add-ca
overflow_add-ca c = one_price-fits _ _ c.requires.first_cost c.price-a_down.ensures.within

pub overflow_add-ca-2 : goal.overflow_add-ca-2
overflow_add-ca-2 c = one_price-fits _ _ c.requires.first_cost c.price-a_up.ensures.within

pub overflow_add-ca-3 : goal.overflow_add-ca-3
overflow_add-ca-3 c = one_price-fits _ _ c.requires.first_cost c.price-a_down.ensures.within

pub overflow_add-ca-4 : goal.overflow_add-ca-4
overflow_add-ca-4 c = two_prices-fit _ _ _ c.requires.first_cost c.price-a_down.ensures.within c.price-a_up.ensures.within

pub overflow_add-cb : goal.overflow_add-cb
overflow_add-cb c = one_price-fits _ _ c.requires.second_cost c.price-b_down.ensures.within

pub overflow_add-cb-2 : goal.overflow_add-cb-2
overflow_add-cb-2 c = one_price-fits _ _ c.requires.second_cost c.price-b_up.ensures.within

pub overflow_add-cb-3 : goal.overflow_add-cb-3
overflow_add-cb-3 c = one_price-fits _ _ c.requires.second_cost c.price-b_down.ensures.within

pub overflow_add-cb-4 : goal.overflow_add-cb-4
overflow_add-cb-4 c = two_prices-fit _ _ _ c.requires.second_cost c.price-b_down.ensures.within c.price-b_up.ensures.within

pub price-a_down-requires-clause-buffer : goal.price-a_down-requires-clause-buffer
price-a_down-requires-clause-buffer c = buffer-back _ c.requires.first.down

pub price-a_down-requires-clause-rate : goal.price-a_down-requires-clause-rate
price-a_down-requires-clause-rate c = buffer-back _ c.requires.down_rate

pub price-a_up-requires-clause-buffer : goal.price-a_up-requires-clause-buffer
price-a_up-requires-clause-buffer c = buffer-back _ c.requires.first.up

pub price-a_up-requires-clause-rate : goal.price-a_up-requires-clause-rate
price-a_up-requires-clause-rate c = buffer-back _ c.requires.up_rate

pub price-b_down-requires-clause-buffer : goal.price-b_down-requires-clause-buffer
price-b_down-requires-clause-buffer c = buffer-back _ c.requires.second.down

pub price-b_down-requires-clause-rate : goal.price-b_down-requires-clause-rate
price-b_down-requires-clause-rate c = buffer-back _ c.requires.down_rate

pub price-b_up-requires-clause-buffer : goal.price-b_up-requires-clause-buffer
price-b_up-requires-clause-buffer c = buffer-back _ c.requires.second.up

pub price-b_up-requires-clause-rate : goal.price-b_up-requires-clause-rate
price-b_up-requires-clause-rate c = buffer-back _ c.requires.up_rate
