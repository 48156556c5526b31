-- What crates above may cite: where a waypoint is moved is one node or none.
use Rattle.std.proofs.Common.{◌≡◌, ℕ, Option, Some, None, ap, refl, arith}
use Rattle.geo_int.specs.Place.{Place}
use Rattle.nearest_node.specs.Nearest.{IsNearest, IsMovedTo}

-- two nearest nodes are one
nearest-same : (count : ℕ) (places : ℕ → Place) (may : ℕ → Type 0) (at : Place) (a b : ℕ) →
    IsNearest count places may at a → IsNearest count places may at b → a ≡ b
nearest-same count places may at a b is other =
    let there = is.nearest b other.in_range other.let_through in
    let back = other.nearest a is.in_range is.let_through in
    omega (
      arith,
      is.first b other.in_range other.let_through (omega (arith, there, back)),
      other.first a is.in_range is.let_through (omega (arith, there, back)),
    )

-- a waypoint is moved to one node alone
pub moved-same : (count : ℕ) (places : ℕ → Place) (may : ℕ → Type 0) (at : Place) (a b : Option ℕ) →
    IsMovedTo count places may at a → IsMovedTo count places may at b → a ≡ b
moved-same count places may at (Some a) (Some b) is other = ap Some (nearest-same count places may at a b is.0 other.0)
moved-same count places may at (Some a) None is other = absurd (omega (arith, is.1, other a is.0.in_range is.0.let_through))
moved-same count places may at None (Some b) is other = absurd (omega (arith, other.1, is b other.0.in_range other.0.let_through))
moved-same count places may at None None is other = refl
