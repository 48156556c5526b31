-- A label that supersedes another is no more in the three sums, for prices that are not below 0.
use Rattle.std.proofs.Common.{◌≡◌, ℤ, pos, negsuc, ◌+ℤ◌, ◌-ℤ◌, ◌*ℤ◌, ◌≤ℤ◌, ◌<ℤ◌, refl, ap, ◌∙◌, arith}
use Rattle.std.specs.Int.{int_max}
use Rattle.std.proofs.lemmas.Int.{ints, clamps}
use Rattle.std.proofs.Math.IntN.{*ℤ_comm, *ℤ-zero}
use Rattle.elev_buffer.specs.Covers.{Terms, Label, label, excess, price, rate_by, IsInOrder, CoversLabel, SupersedesLabel, IsBelowWherePriced}
use Rattle.elev_buffer.specs.declared.labels.Mode.{Mode}
use Rattle.elev_buffer.specs.declared.labels.Mode.TheVariants.{Compensated, Ordered, Equal}
use Rattle.elev_buffer.proofs.ProductLemmas.{mul-add, mul-sub, mul-grows}
use Rattle.elev_buffer.proofs.CoverLemmas.{covers-refl}
use Rattle.elev_buffer.proofs.NewerLemmas.{price-by}

-- a price above 0 makes no number less
grown : (k n : ℤ) → pos 0 <ℤ k → pos 0 ≤ℤ n → n ≤ℤ (k *ℤ n)
grown k (pos n) some low =
    let e = mul-grows (pos n) (pos 1) k (omega (arith, ints)) (omega (arith, ints)) in
    omega (arith, ints, *ℤ_comm k (pos n))
grown k (negsuc n) some low = absurd (omega (arith, ints))

-- where a buffer has a price, its mode asks for no order
priced-order : (mode : Mode) (k x y : ℤ) → pos 0 <ℤ rate_by mode k → IsInOrder mode x y
priced-order Compensated k x y some = tt
priced-order Ordered k x y some = absurd (omega (arith, ints))
priced-order Equal k x y some = absurd (omega (arith, ints))

-- how two buffers compare with a third
record Compares (mode : Mode) (k x y z p q : ℤ) : Type 0 where
  first : IsInOrder mode x z
  second : IsInOrder mode y z
  first_price : price mode k x z ≡ p
  second_price : price mode k y z ≡ q

-- two buffers in order have nothing more than the larger one
with-larger : (mode : Mode) (k x y : ℤ) → IsInOrder mode x y → Compares mode k x y (int_max x y) (pos 0) (pos 0)
with-larger Compensated k x y order =
    let e : excess x (int_max x y) ≡ pos 0 = omega (arith, ints, clamps) in
    let f : excess y (int_max x y) ≡ pos 0 = omega (arith, ints, clamps) in
    record {
      first = tt;
      second = tt;
      first_price = ap (λ n. k *ℤ n) e ∙ *ℤ-zero k;
      second_price = ap (λ n. k *ℤ n) f ∙ *ℤ-zero k;
    }
with-larger Ordered k x y order = record {
  first = omega (arith, ints, clamps);
  second = omega (arith, ints, clamps);
  first_price = refl;
  second_price = refl;
}
with-larger Equal k x y order = record {
  first = omega (arith, ints, clamps);
  second = omega (arith, ints, clamps);
  first_price = refl;
  second_price = refl;
}

-- two buffers with a price, and one that is smaller than both
with-smaller : (mode : Mode) (k x y n : ℤ) → pos 0 <ℤ rate_by mode k → pos 0 ≤ℤ n → (y -ℤ x) ≤ℤ n →
    Compares mode k x y (y -ℤ n) (rate_by mode k *ℤ x -ℤ rate_by mode k *ℤ y +ℤ rate_by mode k *ℤ n)
    (rate_by mode k *ℤ n)
with-smaller mode k x y n some low far =
    let r = rate_by mode k in
    let e : excess x (y -ℤ n) ≡ (x -ℤ y) +ℤ n = omega (arith, ints, clamps) in
    let f : excess y (y -ℤ n) ≡ n = omega (arith, ints, clamps) in
    record {
      first = priced-order mode k x (y -ℤ n) some;
      second = priced-order mode k y (y -ℤ n) some;
      first_price = price-by mode k x (y -ℤ n) ∙ ap (λ m. r *ℤ m) e ∙
          omega (arith, ints, mul-add r (x -ℤ y) n, mul-sub r x y);
      second_price = price-by mode k y (y -ℤ n) ∙ ap (λ m. r *ℤ m) f;
    }

-- where the first label supersedes the second, which covers a later one by this much, the first covers it
sum-of : (by : Terms) (a b : Label) (z w p q r s cost : ℤ) → SupersedesLabel by a b →
    Compares by.modes.down by.down_rate a.buffers.down b.buffers.down z p q →
    Compares by.modes.up by.up_rate a.buffers.up b.buffers.up w r s → a.cost ≤ℤ cost → (b.cost +ℤ q +ℤ s) ≤ℤ cost →
    (a.cost +ℤ p +ℤ r) ≤ℤ cost
sum-of by a b z w p q r s cost supersedes d u less within =
    let later = label (record { down = z; up = w }) cost in
    let dq = d.second_price in
    let us = u.second_price in
    let covered : CoversLabel by b later = record { cost = omega (arith, ints); down = d.second; up = u.second } in
    let covers = supersedes later less covered in
    let sum = covers.cost in
    let dp = d.first_price in
    let ur = u.first_price in
    omega (arith, ints)

-- both buffers have the order that their modes ask for
whole-order : (by : Terms) (a b : Label) → SupersedesLabel by a b →
    CoversLabel by a (label b.buffers (int_max a.cost b.cost))
whole-order by a b supersedes =
    let later = label b.buffers (int_max a.cost b.cost) in
    supersedes later (omega (arith, ints, clamps)) (covers-refl by b later refl (omega (arith, ints, clamps)))

-- and the first is no more in the three sums
pub supersedes-whole : (by : Terms) (a b : Label) → SupersedesLabel by a b → IsBelowWherePriced by a b
supersedes-whole by a b supersedes =
    let order = whole-order by a b supersedes in
    let x = a.buffers in
    let y = b.buffers in
    let k = rate_by by.modes.down by.down_rate in
    let l = rate_by by.modes.up by.up_rate in
    let n = excess y.down x.down +ℤ excess a.cost b.cost in
    let m = excess y.up x.up +ℤ excess a.cost b.cost in
    let n_low : pos 0 ≤ℤ n = omega (arith, ints, clamps) in
    let m_low : pos 0 ≤ℤ m = omega (arith, ints, clamps) in
    let n_far : (y.down -ℤ x.down) ≤ℤ n = omega (arith, ints, clamps) in
    let m_far : (y.up -ℤ x.up) ≤ℤ m = omega (arith, ints, clamps) in
    let n_gap : (a.cost -ℤ b.cost) ≤ℤ n = omega (arith, ints, clamps) in
    let m_gap : (a.cost -ℤ b.cost) ≤ℤ m = omega (arith, ints, clamps) in
    let flat_down = with-larger by.modes.down by.down_rate x.down y.down order.down in
    let flat_up = with-larger by.modes.up by.up_rate x.up y.up order.up in
    record {
      down = order.down;
      up = order.up;
      sums = record {
        down = λ e.
            let g = grown k n e n_low in
            let s = sum-of by a b _ _ _ _ _ _ (b.cost +ℤ k *ℤ n) supersedes
            (with-smaller by.modes.down by.down_rate x.down y.down n e n_low n_far) flat_up
            (omega (arith, ints)) (omega (arith, ints)) in
            omega (arith, ints);
        up = λ e.
            let g = grown l m e m_low in
            let s = sum-of by a b _ _ _ _ _ _ (b.cost +ℤ l *ℤ m) supersedes flat_down
            (with-smaller by.modes.up by.up_rate x.up y.up m e m_low m_far)
            (omega (arith, ints)) (omega (arith, ints)) in
            omega (arith, ints);
        both = λ e f.
            let g = grown k n e n_low in
            let h = grown l m f m_low in
            let s = sum-of by a b _ _ _ _ _ _ (b.cost +ℤ k *ℤ n +ℤ l *ℤ m) supersedes
            (with-smaller by.modes.down by.down_rate x.down y.down n e n_low n_far)
            (with-smaller by.modes.up by.up_rate x.up y.up m f m_low m_far)
            (omega (arith, ints)) (omega (arith, ints)) in
            omega (arith, ints);
      };
    }
