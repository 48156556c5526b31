use Rattle.std.proofs.Common.{◌↔◌, IsTrue, pos, SFits, w64, arith}
use Rattle.std.proofs.lemmas.Int.{ints, to_z-of_z}
use Rattle.elev_buffer.specs.Covers.{IsBelowWherePriced, label, terms}
use Rattle.elev_buffer.proofs.NewerLemmas.{priced-test, supersedes-sound, supersedes-itself}
use Rattle.elev_buffer.proofs.WholeLemmas.{supersedes-whole}
use Rattle.elev_buffer.proofs.WordLemmas.{buffer-back}
use Rattle.elev_buffer.proofs.newer.supersedes.Goals as goal

-- the test is the definition's
is : (c : goal.After-are_sums_below) → IsTrue c.are_sums_below.result ↔
    IsBelowWherePriced (terms c.args.modes.now c.args.kd c.args.ku) (label c.args.a.now (pos c.args.ca))
    (label c.args.b.now (pos c.args.cb))
is c =
    let down : SFits w64 c.rate.result = record { sfits = c.rate.type_inv } in
    let up : SFits w64 c.rate-2.result = record { sfits = c.rate-2.type_inv } in
    let sums = simp (to_z-of_z, down, up) at c.are_sums_below.ensures.exact in
    let k = simp (to_z-of_z, c.ranges.kd) at c.rate.ensures.exact in
    let l = simp (to_z-of_z, c.ranges.ku) at c.rate-2.ensures.exact in
    priced-test _ _ _ _ _ _ k l (c.are_in_order.ensures.exact.0 c.if-not-are_in_order.false) sums

pub returns-clause-exact : goal.returns-clause-exact
returns-clause-exact c = is c

pub returns-clause-sound : goal.returns-clause-sound
returns-clause-sound c = λ h. supersedes-sound _ _ _ c.requires.down_rate.low c.requires.up_rate.low ((is c).0 h)

pub returns-then-not-are_in_order-clause-whole : goal.returns-then-not-are_in_order-clause-whole
returns-then-not-are_in_order-clause-whole c = λ h.
    let whole = supersedes-whole _ _ _ h in
    c.if-not-are_in_order.ensures.exact.1 (whole.down, whole.up)

pub returns-clause-whole : goal.returns-clause-whole
returns-clause-whole c = λ h. (is c).1 (supersedes-whole _ _ _ h)

pub returns-clause-reflexive : goal.returns-clause-reflexive
returns-clause-reflexive c = λ same less. (is c).1 (supersedes-itself _ _ _ same (omega (arith, ints)))

pub are_sums_below-requires-clause-down_rate : goal.are_sums_below-requires-clause-down_rate
are_sums_below-requires-clause-down_rate c = buffer-back _ c.rate.ensures.within

pub are_sums_below-requires-clause-up_rate : goal.are_sums_below-requires-clause-up_rate
are_sums_below-requires-clause-up_rate c = buffer-back _ c.rate-2.ensures.within

pub are_sums_below-requires-clause-first : goal.are_sums_below-requires-clause-first
are_sums_below-requires-clause-first c = c.requires.first

pub are_sums_below-requires-clause-second : goal.are_sums_below-requires-clause-second
are_sums_below-requires-clause-second c = c.requires.second

pub are_sums_below-requires-clause-first_cost : goal.are_sums_below-requires-clause-first_cost
are_sums_below-requires-clause-first_cost c = c.requires.first_cost

pub are_sums_below-requires-clause-second_cost : goal.are_sums_below-requires-clause-second_cost
are_sums_below-requires-clause-second_cost c = c.requires.second_cost

pub returns-then-not-are_in_order-clause-exact : goal.returns-then-not-are_in_order-clause-exact
returns-then-not-are_in_order-clause-exact c =
    (λ no. absurd (cc), λ is. c.if-not-are_in_order.ensures.exact.1 (is.down, is.up))

pub returns-then-not-are_in_order-clause-sound : goal.returns-then-not-are_in_order-clause-sound
returns-then-not-are_in_order-clause-sound c = λ no. absurd (cc)
