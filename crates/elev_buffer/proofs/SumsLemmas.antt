-- What covers a label has none of the three numbers greater, for prices that are not below 0.
use Rattle.std.proofs.Common.{◌≡◌, ◌<◌, ◌+◌, ◌^◌, ℕ, ℤ, Bool, true, false, if◌then◌else◌, pos, ◌+ℤ◌, ◌-ℤ◌, ◌*ℤ◌, ◌≤ℤ◌, to_z, of_z, refl, ◌∙◌, arith}
use Rattle.std.specs.Int.{w128}
use Rattle.std.proofs.lemmas.Int.{ints, clamps, to_z_pos, to_z-of_z, fits_signed_from_abs}
use Rattle.elev_buffer.specs.Covers.{Terms, Label, CoversLabel, IsInOrder, rate_by}
use Rattle.elev_buffer.specs.Sums.{IsNoMoreInSums, both_by, down_by, shared_both, sum_by, sums_of}
use Rattle.elev_buffer.specs.Slots.{asks_equal, is_equal}
use Rattle.elev_buffer.proofs.SlotLemmas.{order-shares}
use Rattle.elev_buffer.specs.declared.labels.Mode.{Mode}
use Rattle.elev_buffer.specs.declared.labels.Mode.TheVariants.{Compensated, Ordered, Equal}
use Rattle.elev_buffer.specs.declared.sums.Sums.{Sums}
use Rattle.elev_buffer.proofs.NewerLemmas.{price-split}

-- where the cost with what the first buffer has more is within another cost, its number is no more
sum-within : (mode : Mode) (k x y ca cb : ℤ) → IsInOrder mode x y → (ca +ℤ (rate_by mode k *ℤ x -ℤ rate_by mode k *ℤ y)) ≤ℤ cb →
    sum_by mode k ca x ≤ℤ sum_by mode k cb y
sum-within Compensated k x y ca cb order within = omega (arith, ints)
sum-within Ordered k x y ca cb order within = order
sum-within Equal k x y ca cb order within = omega (arith, ints, order)

-- both labels share what must be equal
shared-same : (by : Terms) (a b : Label) → CoversLabel by a b → shared_both by.modes a.buffers ≡ shared_both by.modes b.buffers
shared-same by a b covers =
    let down = order-shares by.modes.down _ _ covers.down in
    let up = order-shares by.modes.up _ _ covers.up in
    omega (arith, down, up)

-- so the first number of what covers is no more, where its sum isn't
down-within : (by : Terms) (a b : Label) → CoversLabel by a b →
    sum_by by.modes.down by.down_rate a.cost a.buffers.down ≤ℤ sum_by by.modes.down by.down_rate b.cost b.buffers.down →
    down_by by a ≤ℤ down_by by b
down-within by a b covers within =
    go (is_equal by.modes.down) (shared_both by.modes a.buffers) (shared_both by.modes b.buffers) _ _ (shared-same by a b covers)
    within where
      go : (equal : Bool) (m n : ℕ) (x y : ℤ) → m ≡ n → x ≤ℤ y → (if equal then pos m else x) ≤ℤ (if equal then pos n else y)
      go true m n x y same low = omega (arith, ints, same)
      go false m n x y same low = low

-- and the third is no more, where its sum isn't
both-within : (by : Terms) (a b : Label) → CoversLabel by a b →
    (a.cost +ℤ rate_by by.modes.down by.down_rate *ℤ a.buffers.down +ℤ rate_by by.modes.up by.up_rate *ℤ a.buffers.up)
    ≤ℤ (b.cost +ℤ rate_by by.modes.down by.down_rate *ℤ b.buffers.down +ℤ rate_by by.modes.up by.up_rate *ℤ b.buffers.up) →
    both_by by a ≤ℤ both_by by b
both-within by a b covers within =
    go (asks_equal by.modes) (shared_both by.modes a.buffers) (shared_both by.modes b.buffers) _ _ (shared-same by a b covers)
    within where
      go : (asks : Bool) (m n : ℕ) (x y : ℤ) → m ≡ n → x ≤ℤ y →
          (if asks then pos 0 -ℤ pos m else x) ≤ℤ (if asks then pos 0 -ℤ pos n else y)
      go true m n x y same low = omega (arith, ints, same)
      go false m n x y same low = low

-- what covers has none of the three numbers greater
pub covers-below : (by : Terms) (a b : Label) → pos 0 ≤ℤ by.down_rate → pos 0 ≤ℤ by.up_rate → CoversLabel by a b →
    IsNoMoreInSums (sums_of by a) (sums_of by b)
unfolding sums_of
covers-below by a b d u covers =
    let p = price-split by.modes.down by.down_rate a.buffers.down b.buffers.down d in
    let q = price-split by.modes.up by.up_rate a.buffers.up b.buffers.up u in
    let cost = covers.cost in
    record {
      down = down-within by a b covers
          (sum-within by.modes.down by.down_rate _ _ _ _ covers.down (omega (arith, ints, clamps)));
      up = sum-within by.modes.up by.up_rate _ _ _ _ covers.up (omega (arith, ints, clamps));
      both = both-within by a b covers (omega (arith, ints, clamps));
    }

-- the three numbers as they are computed: the sums of each buffer, and that of both
pub record AreComputed (by : Terms) (a : Label) (down up both : ℤ) : Type 0 where
  pub down_is : down ≡ down_by by a
  pub up_is : up ≡ sum_by by.modes.up by.up_rate a.cost a.buffers.up
  pub both_is : both ≡ both_by by a

-- are those of the definition
pub sums-computed : (by : Terms) (a : Label) (down up both : ℤ) → AreComputed by a down up both →
    ◌≡◌ {A = Sums} (record { down = down; up = up; both = both }) (sums_of by a)
unfolding sums_of
sums-computed by a down up both is = rw (is.down_is, is.up_is, is.both_is) refl

-- a cost with two prices stays within 128 bits
pub wide-sum : (cost m n : ℕ) (x y : ℤ) → cost < 2 ^ 126 → m < 2 ^ 100 → n < 2 ^ 100 → pos m ≡ x → pos n ≡ y →
    to_z w128 (cost + m + n) ≡ pos cost +ℤ x +ℤ y
wide-sum cost m n x y low first second e f = to_z_pos w128 (cost + m + n) (omega arith) ∙ omega (arith, ints)

-- what must be equal, negative, is such a number of 128 bits
pub negative-back : (n : ℕ) → n < 2 ^ 101 → to_z w128 (of_z w128 (pos 0 -ℤ to_z w128 n)) ≡ pos 0 -ℤ pos n
negative-back n small =
    let same : to_z w128 n ≡ pos n = to_z_pos w128 n (omega (arith, small)) in
    rw (same) (to_z-of_z w128 (pos 0 -ℤ pos n) (fits_signed_from_abs w128 (pos 0 -ℤ pos n) (omega (arith, ints, small))))

-- the third number where a buffer must be equal
pub both-equal : (by : Terms) (a : Label) → asks_equal by.modes ≡ true → (x : ℤ) →
    x ≡ pos 0 -ℤ pos (shared_both by.modes a.buffers) → x ≡ both_by by a
both-equal by a asks x is = rw (asks) is
