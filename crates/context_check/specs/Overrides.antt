-- Overrides: names with the numbers that replace their values. This project's own rule.
use Rattle.std.specs.Prelude.{◌≡◌, ◌<◌, ◌^◌, ℕ, Bool, false, is_some, length, List, [], ◌∷◌, ℤ}
use Rattle.std.specs.Map.{lookup}
use Rattle.std.specs.Str.{bytes_eq}

-- a name has an override
abbrev pub is_overridden : List (List ℕ × ℤ) → List ℕ → Bool
is_overridden overrides name = is_some (lookup (bytes_eq name) overrides)

-- no name comes twice
abbrev pub HaveDistinctNames : List (List ℕ × ℤ) → Type 0
HaveDistinctNames [] = Unit {0}
HaveDistinctNames (o ∷ os) = (is_overridden os o.0 ≡ false) × HaveDistinctNames os

-- so they are, and their places are 32-bit numbers
pub record AreOverrides (overrides : List (List ℕ × ℤ)) : Type 0 where
  pub distinct : HaveDistinctNames overrides
  pub few : length overrides < 2 ^ 32
