-- What follows from the definition of covering, for prices that are not below 0.
use Rattle.std.proofs.Common.{◌≡◌, ℤ, pos, ◌+ℤ◌, ◌-ℤ◌, ◌*ℤ◌, ◌≤ℤ◌, ◌↔◌, refl, sym, ap, ◌∙◌, subst, arith}
use Rattle.std.specs.Int.{int_max}
use Rattle.std.proofs.Math.IntN.{*ℤ_comm, *ℤ-zero}
use Rattle.std.proofs.lemmas.Int.{ints, clamps, by_lt_z}
use Rattle.elev_buffer.specs.Step.{IsLimits, step_of}
use Rattle.elev_buffer.specs.Covers.{Terms, Label, excess, price, IsInOrder, CoversLabel, IsKept, IsBelowInSums}
use Rattle.elev_buffer.specs.declared.steps.Limits.{Limits}
use Rattle.elev_buffer.specs.declared.labels.Mode.{Mode}
use Rattle.elev_buffer.specs.declared.labels.Mode.TheVariants.{Compensated, Ordered, Equal}
use Rattle.elev_buffer.specs.declared.labels.Pair.{Pair}
use Rattle.elev_buffer.proofs.ProductLemmas.{mul-add, mul-sub, mul-grows}
use Rattle.elev_buffer.proofs.StepLemmas.{step-grows, step-slowly}

-- the order of a mode is one
pub order-trans : (mode : Mode) (x y z : ℤ) → IsInOrder mode x y → IsInOrder mode y z → IsInOrder mode x z
order-trans Compensated x y z h k = tt
order-trans Ordered x y z h k = omega (arith, ints)
order-trans Equal x y z h k = h ∙ k

-- and holds of a buffer and itself
pub order-refl : (mode : Mode) (x : ℤ) → IsInOrder mode x x
order-refl Compensated x = tt
order-refl Ordered x = omega (arith, ints)
order-refl Equal x = refl

-- what a buffer has more than itself costs nothing
price-refl : (mode : Mode) (k x : ℤ) → price mode k x x ≡ pos 0
price-refl Compensated k x =
    let none : excess x x ≡ pos 0 = omega (arith, ints, clamps) in
    ap (λ e. k *ℤ e) none ∙ *ℤ-zero k
price-refl Ordered k x = refl
price-refl Equal k x = refl

-- to make up by way of a third buffer is no cheaper
price-trans : (mode : Mode) (k x y z : ℤ) → pos 0 ≤ℤ k → price mode k x z ≤ℤ (price mode k x y +ℤ price mode k y z)
price-trans Compensated k x y z positive =
    let e : excess x z ≤ℤ (excess x y +ℤ excess y z) = omega (arith, ints, clamps) in
    omega (arith, ints, mul-grows k _ _ positive e, mul-add k (excess x y) (excess y z))
price-trans Ordered k x y z positive = omega (arith, ints)
price-trans Equal k x y z positive = omega (arith, ints)

-- what a buffer has more costs at least nothing
price-positive : (mode : Mode) (k x y : ℤ) → pos 0 ≤ℤ k → pos 0 ≤ℤ price mode k x y
price-positive Compensated k x y positive =
    let more : pos 0 ≤ℤ excess x y = omega (arith, ints, clamps) in
    omega (arith, ints, mul-grows k _ _ positive more, *ℤ-zero k)
price-positive Ordered k x y positive = omega (arith, ints)
price-positive Equal k x y positive = omega (arith, ints)

-- what covers costs no more
pub covers-cheaper : (by : Terms) (a b : Label) → pos 0 ≤ℤ by.down_rate → pos 0 ≤ℤ by.up_rate → CoversLabel by a b → a.cost ≤ℤ b.cost
covers-cheaper by a b d u f =
    let p = price-positive by.modes.down by.down_rate a.buffers.down b.buffers.down d in
    let q = price-positive by.modes.up by.up_rate a.buffers.up b.buffers.up u in
    let cost = f.cost in
    omega (arith, ints)

-- covering is an order
pub covers-trans : (by : Terms) (a b c : Label) → pos 0 ≤ℤ by.down_rate → pos 0 ≤ℤ by.up_rate →
    CoversLabel by a b → CoversLabel by b c → CoversLabel by a c
covers-trans by a b c d u f g =
    let p = price-trans by.modes.down by.down_rate a.buffers.down b.buffers.down c.buffers.down d in
    let q = price-trans by.modes.up by.up_rate a.buffers.up b.buffers.up c.buffers.up u in
    let first = f.cost in
    let second = g.cost in
    record {
      cost = omega (arith, ints);
      down = order-trans by.modes.down _ _ _ f.down g.down;
      up = order-trans by.modes.up _ _ _ f.up g.up;
    }

-- a label covers every one of its own buffers that costs no less
pub covers-refl : (by : Terms) (a b : Label) → a.buffers ≡ b.buffers → a.cost ≤ℤ b.cost → CoversLabel by a b
covers-refl by a b same h =
    let P : Pair → Type 0 = λ pair. CoversLabel by a (record { buffers = pair; cost = b.cost }) in
    subst P same (record {
      cost = omega (arith, ints, price-refl by.modes.down by.down_rate a.buffers.down, price-refl by.modes.up by.up_rate a.buffers.up);
      down = order-refl by.modes.down a.buffers.down;
      up = order-refl by.modes.up a.buffers.up;
    })

-- what a buffer has more costs nothing at no price
price-free : (mode : Mode) (k x y : ℤ) → k ≡ pos 0 → price mode k x y ≡ pos 0
price-free Compensated k x y none = rw none (*ℤ_comm (pos 0) (excess x y) ∙ *ℤ-zero (excess x y))
price-free Ordered k x y none = refl
price-free Equal k x y none = refl

-- the compensated mode asks for no order
order-free : (mode : Mode) (x y : ℤ) → mode ≡ Compensated → IsInOrder mode x y
order-free mode x y is = subst (λ m. IsInOrder m x y) (sym is) tt

-- where no buffer has a price and both are compensated, a label covers every one that costs no less
pub covers-flat : (by : Terms) (a b : Label) → by.down_rate ≡ pos 0 → by.up_rate ≡ pos 0 → by.modes.down ≡ Compensated →
    by.modes.up ≡ Compensated → a.cost ≤ℤ b.cost → CoversLabel by a b
covers-flat by a b d u down up less =
    let p = price-free by.modes.down by.down_rate a.buffers.down b.buffers.down d in
    let q = price-free by.modes.up by.up_rate a.buffers.up b.buffers.up u in
    record {
      cost = omega (arith, ints);
      down = order-free by.modes.down _ _ down;
      up = order-free by.modes.up _ _ up;
    }

-- what a step pays, and what one buffer then has more than the other, is no more than before
step-excess : (l : Limits) (added r x y : ℤ) → IsLimits l → pos 0 ≤ℤ r →
    ((step_of l added r x).paid +ℤ excess (step_of l added r x).e (step_of l added r y).e) ≤ℤ ((step_of l added r y).paid +ℤ excess x y)
step-excess l added r x y is positive =
    by_lt_z y x
    (λ h. let more : y ≤ℤ x = omega (arith, ints) in
    let g = step-grows l added r y x is positive more in
    let s = step-slowly l added r y x is more in
    let e = g.e in
    omega (arith, ints, clamps))
    (λ h. let g = step-grows l added r x y is positive h in
    let e = g.e in
    let p = g.paid in
    omega (arith, ints, clamps))

-- one buffer's part of the covering after a step
pub record KeepsOne (mode : Mode) (l : Limits) (added r k x y : ℤ) : Type 0 where
  pub order : IsInOrder mode (step_of l added r x).e (step_of l added r y).e
  pub cost : ((step_of l added r x).paid *ℤ k +ℤ price mode k (step_of l added r x).e (step_of l added r y).e)
      ≤ℤ ((step_of l added r y).paid *ℤ k +ℤ price mode k x y)

-- lasts in each mode
keeps-one : (mode : Mode) (l : Limits) (added r k x y : ℤ) → IsLimits l → pos 0 ≤ℤ r → pos 0 ≤ℤ k → IsInOrder mode x y →
    KeepsOne mode l added r k x y
keeps-one Compensated l added r k x y is positive price h =
    let sx = step_of l added r x in
    let sy = step_of l added r y in
    let e = mul-grows k _ _ price (step-excess l added r x y is positive) in
    record {
      order = tt;
      cost =
          omega
          (arith, ints, e, mul-add k sx.paid (excess sx.e sy.e), mul-add k sy.paid (excess x y), *ℤ_comm sx.paid k, *ℤ_comm sy.paid k);
    }
keeps-one Ordered l added r k x y is positive price h =
    let sx = step_of l added r x in
    let sy = step_of l added r y in
    let g = step-grows l added r x y is positive h in
    record {
      order = g.e;
      cost = omega (arith, ints, mul-grows k _ _ price g.paid, *ℤ_comm sx.paid k, *ℤ_comm sy.paid k);
    }
keeps-one Equal l added r k x y is positive price h = record {
  order = ap (λ b. (step_of l added r b).e) h;
  cost = omega (arith, ints, ap (λ b. (step_of l added r b).paid *ℤ k) h);
}

-- where two buffers have the order of their mode, so have the weights of their steps over one link
pub weights-kept : (mode : Mode) (l : Limits) (added r x y : ℤ) → IsLimits l → pos 0 ≤ℤ r → IsInOrder mode x y →
    IsInOrder mode (step_of l added r x).weight (step_of l added r y).weight
weights-kept Compensated l added r x y is positive h = tt
weights-kept Ordered l added r x y is positive h = (step-grows l added r x y is positive h).weight
weights-kept Equal l added r x y is positive h = ap (λ b. (step_of l added r b).weight) h

-- covering lasts over every link
pub covers-kept : (by : Terms) (a b : Label) → pos 0 ≤ℤ by.down_rate → pos 0 ≤ℤ by.up_rate → CoversLabel by a b → IsKept by a b
covers-kept by a b d u f climb a_other b_other is positive other =
    let down =
    keeps-one by.modes.down climb.limits climb.down_added climb.reduction by.down_rate a.buffers.down b.buffers.down is positive d f.down in
    let up = keeps-one by.modes.up climb.limits climb.up_added climb.reduction by.up_rate a.buffers.up b.buffers.up is positive u f.up in
    let p = down.cost in
    let q = up.cost in
    let cost = f.cost in
    record { cost = omega (arith, ints); down = down.order; up = up.order }

-- the price of what one buffer has more is the difference of both prices, or nothing
pub price-excess : (k x y : ℤ) → pos 0 ≤ℤ k → k *ℤ excess x y ≡ int_max (k *ℤ x -ℤ k *ℤ y) (pos 0)
price-excess k x y positive =
    by_lt_z y x
    (λ h. let e : excess x y ≡ x -ℤ y = omega (arith, ints, clamps) in
    let more : y ≤ℤ x = omega (arith, ints) in
    ap (λ n. k *ℤ n) e ∙ omega (arith, ints, clamps, mul-sub k x y, mul-grows k y x positive more))
    (λ h. let e : excess x y ≡ pos 0 = omega (arith, ints, clamps) in
    ap (λ n. k *ℤ n) e ∙ *ℤ-zero k ∙ omega (arith, ints, clamps, mul-grows k x y positive h))

-- two prices are within a difference exactly where each is, and both together are
pub two_prices : (u v ca cb : ℤ) → ca ≤ℤ cb → ((ca +ℤ int_max u (pos 0) +ℤ int_max v (pos 0)) ≤ℤ cb) ↔
    (((ca +ℤ u) ≤ℤ cb) × ((ca +ℤ v) ≤ℤ cb) × ((ca +ℤ u +ℤ v) ≤ℤ cb))
two_prices u v ca cb less = (
  λ h. (omega (arith, ints, clamps), omega (arith, ints, clamps), omega (arith, ints, clamps)),
  λ h. let p = h.0 in let q = h.1 in let r = h.2 in omega (arith, ints, clamps),
)

-- where both are compensated, covering is the order in three sums
pub covers-sums : (by : Terms) (a b : Label) → pos 0 ≤ℤ by.down_rate → pos 0 ≤ℤ by.up_rate → by.modes.down ≡ Compensated →
    by.modes.up ≡ Compensated → a.cost ≤ℤ b.cost → CoversLabel by a b ↔ IsBelowInSums by a b
covers-sums by a b d u e f less =
    let kd = by.down_rate in
    let ku = by.up_rate in
    let x = a.buffers in
    let y = b.buffers in
    let p = price-excess kd x.down y.down d in
    let q = price-excess ku x.up y.up u in
    let two = two_prices (kd *ℤ x.down -ℤ kd *ℤ y.down) (ku *ℤ x.up -ℤ ku *ℤ y.up) a.cost b.cost less in
    let C : Mode → Mode → Type 0 = λ m n. (a.cost +ℤ price m kd x.down y.down +ℤ price n ku x.up y.up) ≤ℤ b.cost in (
      λ h. let cost : C Compensated Compensated = subst (λ n. C Compensated n) f (subst (λ m. C m by.modes.up) e h.cost) in
          let sums = two.0 (omega (arith, ints)) in
          let first = sums.0 in
          let second = sums.1 in
          let third = sums.2 in
          record { down = omega (arith, ints); up = omega (arith, ints); both = omega (arith, ints) },
      λ h. let first = h.down in
          let second = h.up in
          let third = h.both in
          let cost = two.1 (omega (arith, ints), omega (arith, ints), omega (arith, ints)) in
          let made : C Compensated Compensated = omega (arith, ints) in
          record {
            cost = subst (λ m. C m by.modes.up) (sym e) (subst (λ n. C Compensated n) (sym f) made);
            down = subst (λ m. IsInOrder m x.down y.down) (sym e) tt;
            up = subst (λ m. IsInOrder m x.up y.up) (sym f) tt;
          },
    )
