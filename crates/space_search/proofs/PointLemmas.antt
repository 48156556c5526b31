-- Whether a point lies under another, as a test.
use Rattle.std.proofs.Common.{◌≡◌, ℤ, ℕ, ◌/◌, ◌-ℤ◌, nat_abs, int_le, nat_le, ◌&&◌, ◌↔◌, IsTrue, arith}
use Rattle.std.proofs.lemmas.Int.{ints}
use Rattle.space_search.specs.Rules.{IsUnder}
use Rattle.space_search.specs.declared.point.Point.{Point}

-- the three tests of two points say whether the first lies under the second
pub under-test : (a b : Point) → IsTrue ((int_le a.x b.x && int_le a.y b.y) && int_le a.z b.z) ↔ IsUnder a b
under-test a b = (
  λ h. record { x = grind (arith, ints); y = grind (arith, ints); z = grind (arith, ints) },
  λ h. let x = h.x in let y = h.y in let z = h.z in grind (arith, ints),
)

-- what lies under a point lies under all above that
pub under-under : (a b c : Point) → IsUnder a b → IsUnder b c → IsUnder a c
under-under a b c p q =
    record { x = omega (arith, ints, p.x, q.x); y = omega (arith, ints, p.y, q.y); z = omega (arith, ints, p.z, q.z) }

-- a number is nowhere far from itself
pub no-distance : (z : ℤ) → nat_abs (z -ℤ z) ≡ 0
no-distance z = omega (arith, ints)

-- what is no distance is within half of any
pub near-enough : (near far : ℕ) → near ≡ 0 → IsTrue (nat_le near (far / 2))
near-enough near far none = grind (arith, none)
