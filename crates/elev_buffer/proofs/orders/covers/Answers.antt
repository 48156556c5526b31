use Rattle.std.proofs.Common.{arith}
use Rattle.std.proofs.lemmas.Int.{ints, to_z-of_z}
use Rattle.elev_buffer.proofs.CoverLemmas.{covers-refl, covers-trans, covers-cheaper, covers-kept, covers-sums}
use Rattle.elev_buffer.proofs.SlotLemmas.{slot-covered}
use Rattle.elev_buffer.proofs.TestLemmas.{one-test, covers-test}
use Rattle.elev_buffer.proofs.WordLemmas.{buffer-back}
use Rattle.elev_buffer.proofs.orders.covers.Goals as goal

pub returns-clause-value : goal.returns-clause-value
returns-clause-value c =
    let is = simp (to_z-of_z, c.ranges.kd, c.ranges.ku) at c.is_covered.ensures.exact in
    one-test _ _ _ is (covers-test _ _ _)

pub returns-clause-cheaper : goal.returns-clause-cheaper
returns-clause-cheaper c =
    let is = simp (to_z-of_z, c.ranges.kd, c.ranges.ku) at c.is_covered.ensures.exact in
    λ h. omega (arith, ints, covers-cheaper _ _ _ c.requires.down_rate.low c.requires.up_rate.low (is.0 h))

pub returns-clause-transitive : goal.returns-clause-transitive
returns-clause-transitive c =
    let is = simp (to_z-of_z, c.ranges.kd, c.ranges.ku) at c.is_covered.ensures.exact in
    λ third h k. covers-trans _ _ _ _ c.requires.down_rate.low c.requires.up_rate.low (is.0 h) k

pub returns-clause-kept : goal.returns-clause-kept
returns-clause-kept c =
    let is = simp (to_z-of_z, c.ranges.kd, c.ranges.ku) at c.is_covered.ensures.exact in
    λ h. covers-kept _ _ _ c.requires.down_rate.low c.requires.up_rate.low (is.0 h)

pub returns-clause-sums : goal.returns-clause-sums
returns-clause-sums c =
    let is = simp (to_z-of_z, c.ranges.kd, c.ranges.ku) at c.is_covered.ensures.exact in
    λ e f less.
    let sums = covers-sums _ _ _ c.requires.down_rate.low c.requires.up_rate.low e f (omega (arith, ints)) in
    (λ h. sums.0 (is.0 h), λ k. is.1 (sums.1 k))

pub returns-clause-one_slot : goal.returns-clause-one_slot
returns-clause-one_slot c =
    let is = simp (to_z-of_z, c.ranges.kd, c.ranges.ku) at c.is_covered.ensures.exact in
    λ slots link h. slot-covered _ _ _ slots link (is.0 h)

pub returns-clause-exact : goal.returns-clause-exact
returns-clause-exact c = simp (to_z-of_z, c.ranges.kd, c.ranges.ku) at c.is_covered.ensures.exact

pub returns-clause-reflexive : goal.returns-clause-reflexive
returns-clause-reflexive c =
    let is = simp (to_z-of_z, c.ranges.kd, c.ranges.ku) at c.is_covered.ensures.exact in
    λ same less. is.1 (covers-refl _ _ _ same (omega (arith, ints, less)))

pub is_covered-requires-clause-first : goal.is_covered-requires-clause-first
is_covered-requires-clause-first c = c.requires.first

pub is_covered-requires-clause-second : goal.is_covered-requires-clause-second
is_covered-requires-clause-second c = c.requires.second

pub is_covered-requires-clause-first_cost : goal.is_covered-requires-clause-first_cost
is_covered-requires-clause-first_cost c = c.requires.first_cost

pub is_covered-requires-clause-down_rate : goal.is_covered-requires-clause-down_rate
is_covered-requires-clause-down_rate c = buffer-back _ c.requires.down_rate

pub is_covered-requires-clause-up_rate : goal.is_covered-requires-clause-up_rate
is_covered-requires-clause-up_rate c = buffer-back _ c.requires.up_rate
