-- What follows from the definition of superseding, for prices that are not below 0.
use Rattle.std.proofs.Common.{◌≡◌, ◌+◌, ◌≤◌, ℕ, ℤ, pos, ◌+ℤ◌, ◌-ℤ◌, ◌*ℤ◌, ◌≤ℤ◌, ◌<ℤ◌, int_lt, Bool, ◌&&◌, IsTrue, ◌↔◌, ◌⊎◌, inl, inr, refl, sym, ◌∙◌, subst, SFits, w64, arith}
use Rattle.std.specs.Int.{int_max}
use Rattle.std.proofs.Math.IntN.{*ℤ_comm, *ℤ-zero}
use Rattle.std.proofs.lemmas.Int.{ints, by_lt_z, fits_signed_from_abs}
use Rattle.elev_buffer.specs.Covers.{IsBuffer, Terms, Label, label, excess, price, rate_by, IsInOrder, SupersedesLabel, AreSumsBelow, IsBelowWherePriced}
use Rattle.elev_buffer.specs.declared.labels.Mode.{Mode}
use Rattle.elev_buffer.specs.declared.labels.Mode.TheVariants.{Compensated, Ordered, Equal}
use Rattle.elev_buffer.specs.declared.labels.Pair.{Pair}
use Rattle.elev_buffer.proofs.CoverLemmas.{order-trans, order-refl, price-excess, two_prices, covers-cheaper}
use Rattle.elev_buffer.proofs.TestLemmas.{all-three}

-- nothing of a price is nothing
none-of : (x : ℤ) → pos 0 *ℤ x ≡ pos 0
none-of x = *ℤ_comm (pos 0) x ∙ *ℤ-zero x

-- what a buffer has more costs as much at the price that money can make up for
pub price-by : (mode : Mode) (k x y : ℤ) → price mode k x y ≡ rate_by mode k *ℤ excess x y
price-by Compensated k x y = refl
price-by Ordered k x y = sym (none-of (excess x y))
price-by Equal k x y = sym (none-of (excess x y))

-- that price is not below 0
rate-positive : (mode : Mode) (k : ℤ) → pos 0 ≤ℤ k → pos 0 ≤ℤ rate_by mode k
rate-positive Compensated k h = h
rate-positive Ordered k h = omega (arith, ints)
rate-positive Equal k h = omega (arith, ints)

-- so what a buffer has more costs the difference of both prices, or nothing
pub price-split : (mode : Mode) (k x y : ℤ) → pos 0 ≤ℤ k →
    price mode k x y ≡ int_max (rate_by mode k *ℤ x -ℤ rate_by mode k *ℤ y) (pos 0)
price-split mode k x y positive =
    price-by mode k x y ∙ price-excess (rate_by mode k) x y (rate-positive mode k positive)

-- a price that is not below 0 is 0 or above it
none-or-some : (k : ℤ) → pos 0 ≤ℤ k → (k ≡ pos 0) ⊎ (pos 0 <ℤ k)
none-or-some k h = by_lt_z (pos 0) k (λ some. inr some) (λ none. inl (omega (arith, ints)))

-- where a price is 0, so are its products with three buffers
no-products : (k x y z : ℤ) → k ≡ pos 0 → (k *ℤ x ≡ pos 0) × (k *ℤ y ≡ pos 0) × (k *ℤ z ≡ pos 0)
no-products k x y z e = rw e (none-of x, none-of y, none-of z)

-- where the first of two labels is no more in each sum whose price is above 0, and the second's sums are within the
-- cost of a later label, so are the first's
sums-through : (k l : ℤ) (a b c : Label) → pos 0 ≤ℤ k → pos 0 ≤ℤ l → AreSumsBelow k l a b → a.cost ≤ℤ c.cost →
    (b.cost +ℤ (k *ℤ b.buffers.down -ℤ k *ℤ c.buffers.down)) ≤ℤ c.cost →
    (b.cost +ℤ (l *ℤ b.buffers.up -ℤ l *ℤ c.buffers.up)) ≤ℤ c.cost →
    (b.cost +ℤ (k *ℤ b.buffers.down -ℤ k *ℤ c.buffers.down) +ℤ (l *ℤ b.buffers.up -ℤ l *ℤ c.buffers.up)) ≤ℤ c.cost →
    ((a.cost +ℤ (k *ℤ a.buffers.down -ℤ k *ℤ c.buffers.down)) ≤ℤ c.cost)
    × ((a.cost +ℤ (l *ℤ a.buffers.up -ℤ l *ℤ c.buffers.up)) ≤ℤ c.cost)
    × ((a.cost +ℤ (k *ℤ a.buffers.down -ℤ k *ℤ c.buffers.down) +ℤ (l *ℤ a.buffers.up -ℤ l *ℤ c.buffers.up)) ≤ℤ c.cost)
sums-through k l a b c pk pl sums less first second third =
    elim (none-or-some k pk) [
      | inl e ↦ let n = no-products k a.buffers.down b.buffers.down c.buffers.down e in
          let p = n.0 in
          let r = n.2 in
          elim (none-or-some l pl) [
            | inl f ↦ let m = no-products l a.buffers.up b.buffers.up c.buffers.up f in
                let q = m.0 in
                let s = m.2 in
                (omega (arith, ints), omega (arith, ints), omega (arith, ints))
            | inr f ↦ let q = sums.up f in (omega (arith, ints), omega (arith, ints), omega (arith, ints))
          ]
      | inr e ↦ let p = sums.down e in
          elim (none-or-some l pl) [
            | inl f ↦ let m = no-products l a.buffers.up b.buffers.up c.buffers.up f in
                let q = m.0 in
                let s = m.2 in
                (omega (arith, ints), omega (arith, ints), omega (arith, ints))
            | inr f ↦ let q = sums.up f in
                let both = sums.both e f in
                (omega (arith, ints), omega (arith, ints), omega (arith, ints))
          ]
    ]

-- a label that is no more in those sums, in the order that both modes ask for, supersedes the other
pub supersedes-sound : (by : Terms) (a b : Label) → pos 0 ≤ℤ by.down_rate → pos 0 ≤ℤ by.up_rate →
    IsBelowWherePriced by a b → SupersedesLabel by a b
supersedes-sound by a b d u is c less covered =
    let k = rate_by by.modes.down by.down_rate in
    let l = rate_by by.modes.up by.up_rate in
    let before = covers-cheaper by b c d u covered in
    let p = price-split by.modes.down by.down_rate b.buffers.down c.buffers.down d in
    let q = price-split by.modes.up by.up_rate b.buffers.up c.buffers.up u in
    let two = two_prices (k *ℤ b.buffers.down -ℤ k *ℤ c.buffers.down) (l *ℤ b.buffers.up -ℤ l *ℤ c.buffers.up)
    b.cost c.cost before in
    let cost = covered.cost in
    let within = two.0 (omega (arith, ints)) in
    let through = sums-through k l a b c (rate-positive _ _ d) (rate-positive _ _ u) is.sums less
    within.0 within.1 within.2 in
    let back = two_prices (k *ℤ a.buffers.down -ℤ k *ℤ c.buffers.down) (l *ℤ a.buffers.up -ℤ l *ℤ c.buffers.up)
    a.cost c.cost less in
    let joined = back.1 through in
    let r = price-split by.modes.down by.down_rate a.buffers.down c.buffers.down d in
    let s = price-split by.modes.up by.up_rate a.buffers.up c.buffers.up u in
    record {
      cost = omega (arith, ints);
      down = order-trans by.modes.down _ _ _ is.down covered.down;
      up = order-trans by.modes.up _ _ _ is.up covered.up;
    }

-- a label supersedes every one of its own buffers that costs no less
pub supersedes-itself : (by : Terms) (a b : Label) → a.buffers ≡ b.buffers → a.cost ≤ℤ b.cost →
    IsBelowWherePriced by a b
supersedes-itself by a b same h =
    let P : Pair → Type 0 = λ pair. IsBelowWherePriced by a (record { buffers = pair; cost = b.cost }) in
    subst P same (record {
      down = order-refl by.modes.down a.buffers.down;
      up = order-refl by.modes.up a.buffers.up;
      sums = record { down = λ e. omega (arith, ints); up = λ e. omega (arith, ints); both = λ e f. omega (arith, ints) };
    })

-- the price of a rate is asked for where the rate is above 0
asked-above : (k : ℤ) → IsTrue (int_lt (pos 0) k) ↔ (pos 0 <ℤ k)
asked-above k = (λ h. grind (arith, ints), λ h. grind (arith, ints))

-- two rates at once
asked-both : (k l : ℤ) → IsTrue (int_lt (pos 0) k && int_lt (pos 0) l) ↔ ((pos 0 <ℤ k) × (pos 0 <ℤ l))
asked-both k l = (
  λ h. (grind (arith, ints), grind (arith, ints)),
  λ h. let e = h.0 in let f = h.1 in grind (arith, ints),
)

-- a sum that is asked for is no more than another, as counts and as numbers
sum-test : (x asked : Bool) (A : Type 0) (m n : ℕ) (s t : ℤ) → IsTrue x ↔ (IsTrue asked → m ≤ n) → IsTrue asked ↔ A →
    pos m ≡ s → pos n ≡ t → IsTrue x ↔ (A → s ≤ℤ t)
sum-test x asked A m n s t is same e f = (
  λ h k. let below = is.0 h (same.1 k) in omega (arith, ints),
  λ h. is.1 (λ k. let below = h (same.0 k) in omega (arith, ints)),
)

-- the prices of the buffers of a label at two rates
pub record ArePrices (k l : ℤ) (pair : Pair) (m n : ℕ) : Type 0 where
  pub down : pos m ≡ k *ℤ pair.down
  pub up : pos n ≡ l *ℤ pair.up

-- the tests of three sums are those of the definition
pub sums-test : (k l : ℤ) (a b : Pair) (ca cb ad au bd bu : ℕ) (x y z : Bool) → ArePrices k l a ad au →
    ArePrices k l b bd bu →
    IsTrue x ↔ (IsTrue (int_lt (pos 0) k) → ca + ad ≤ cb + bd) →
    IsTrue y ↔ (IsTrue (int_lt (pos 0) l) → ca + au ≤ cb + bu) →
    IsTrue z ↔ (IsTrue (int_lt (pos 0) k && int_lt (pos 0) l) → ca + ad + au ≤ cb + bd + bu) →
    IsTrue (x && y && z) ↔ AreSumsBelow k l (label a (pos ca)) (label b (pos cb))
sums-test k l a b ca cb ad au bd bu x y z p q h i j =
    let pd = p.down in let pu = p.up in let qd = q.down in let qu = q.up in
    let all = all-three x y z _ _ _
    (sum-test x _ _ _ _ (pos ca +ℤ k *ℤ a.down) (pos cb +ℤ k *ℤ b.down) h (asked-above k)
    (omega (arith, ints)) (omega (arith, ints)))
    (sum-test y _ _ _ _ (pos ca +ℤ l *ℤ a.up) (pos cb +ℤ l *ℤ b.up) i (asked-above l)
    (omega (arith, ints)) (omega (arith, ints)))
    (sum-test z _ _ _ _ (pos ca +ℤ k *ℤ a.down +ℤ l *ℤ a.up) (pos cb +ℤ k *ℤ b.down +ℤ l *ℤ b.up) j (asked-both k l)
    (omega (arith, ints)) (omega (arith, ints))) in (
      λ t. let found = all.0 t in record { down = found.0; up = found.1; both = λ e f. found.2 (e, f) },
      λ is. all.1 (is.down, is.up, λ e. is.both e.0 e.1),
    )

-- sums at prices are sums at the same prices
same-sums : (k l m n : ℤ) (a b : Label) → k ≡ m → l ≡ n → AreSumsBelow k l a b ↔ AreSumsBelow m n a b
same-sums k l m n a b e f = (λ h. rw (sym e, sym f) h, λ h. rw (e, f) h)

-- with the order that both modes ask for, the tests of the sums are that of superseding
pub priced-test : (by : Terms) (a b : Label) (k l : ℤ) (x : Bool) → k ≡ rate_by by.modes.down by.down_rate →
    l ≡ rate_by by.modes.up by.up_rate →
    IsInOrder by.modes.down a.buffers.down b.buffers.down × IsInOrder by.modes.up a.buffers.up b.buffers.up →
    IsTrue x ↔ AreSumsBelow k l a b → IsTrue x ↔ IsBelowWherePriced by a b
priced-test by a b k l x e f orders sums =
    let same = same-sums _ _ _ _ a b e f in (
      λ h. record { down = orders.0; up = orders.1; sums = same.0 (sums.0 h) },
      λ is. sums.1 (same.1 is.sums),
    )

-- a buffer fits 64 bits
pub buffer-fits : (n : ℤ) → IsBuffer n → SFits w64 n
buffer-fits n is = fits_signed_from_abs w64 n (omega (arith, ints, is.low, is.high))
