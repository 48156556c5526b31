-- Covering and superseding as tests.
use Rattle.std.proofs.Common.{◌≡◌, ℤ, ◌+ℤ◌, ◌≤ℤ◌, int_le, Bool, true, false, ◌&&◌, IsTrue, ◌↔◌, refl, arith}
use Rattle.std.proofs.lemmas.Int.{ints}
use Rattle.elev_buffer.specs.Covers.{Terms, Label, IsInOrder, CoversLabel, down_price, up_price, is_in_order, covers_label}
use Rattle.elev_buffer.specs.declared.labels.Mode.{Mode}
use Rattle.elev_buffer.specs.declared.labels.Mode.TheVariants.{Compensated, Ordered, Equal}

-- three tests at once
pub all-three : (x y z : Bool) (A B C : Type 0) → IsTrue x ↔ A → IsTrue y ↔ B → IsTrue z ↔ C →
    IsTrue (x && y && z) ↔ (A × B × C)
all-three true true true A B C h k l = (λ t. (h.0 refl, k.0 refl, l.0 refl), λ t. refl)
all-three true true false A B C h k l = (λ t. absurd (cc), λ t. l.1 t.2)
all-three true false z A B C h k l = (λ t. absurd (cc), λ t. let no = k.1 t.1 in absurd (cc))
all-three false y z A B C h k l = (λ t. absurd (cc), λ t. let no = h.1 t.0 in absurd (cc))

-- two tests that hold for the same reason are one
pub one-test : (x y : Bool) (A : Type 0) → IsTrue x ↔ A → IsTrue y ↔ A → x ≡ y
one-test true true A h k = refl
one-test true false A h k = let t = k.1 (h.0 refl) in absurd (cc)
one-test false true A h k = let t = h.1 (k.0 refl) in absurd (cc)
one-test false false A h k = refl

-- the order of a mode is its test
order-test : (mode : Mode) (x y : ℤ) → IsTrue (is_in_order mode x y) ↔ IsInOrder mode x y
order-test Compensated x y = (λ h. tt, λ h. refl)
order-test Ordered x y = (λ h. grind (arith, ints), λ h. grind (arith, ints))
order-test Equal x y = (λ h. grind (arith, ints), λ h. grind (arith, ints))

-- a sum is at most a cost where the test says so
below-test : (x y : ℤ) → IsTrue (int_le x y) ↔ (x ≤ℤ y)
below-test x y = (λ h. grind (arith, ints), λ h. grind (arith, ints))

-- the test of covering is the definition's
pub covers-test : (by : Terms) (a b : Label) → IsTrue (covers_label by a b) ↔ CoversLabel by a b
unfolding covers_label
covers-test by a b =
    let all = all-three _ _ _ _ _ _ (below-test (a.cost +ℤ down_price by a b +ℤ up_price by a b) b.cost)
    (order-test by.modes.down a.buffers.down b.buffers.down) (order-test by.modes.up a.buffers.up b.buffers.up) in (
      λ h. let found = all.0 h in record { cost = found.0; down = found.1; up = found.2 },
      λ h. all.1 (h.cost, h.down, h.up),
    )
