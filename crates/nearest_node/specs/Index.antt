-- The nodes of a map by latitude, as ascending numbers (this project's own rule).
use Rattle.std.specs.Prelude.{ℕ, zero, suc, ◌+◌, ◌*◌, ◌^◌, pos, ◌+ℤ◌, List, [], ◌∷◌, ◌++◌, unsigned_abs}
use Rattle.std.specs.List.Sorted.{IsPermutation, IsNonDecreasing}
use Rattle.geo_int.specs.Place.{Place}

-- how far north of the south pole a place lies, in microdegrees
abbrev pub height_of : Place → ℕ
height_of place = unsigned_abs (place.lat +ℤ pos 90000000)

-- the key of a node: its latitude above, its number below
unfoldable pub key_of : (ℕ → Place) → ℕ → ℕ
key_of places node = height_of (places node) * 2 ^ 32 + node

-- the keys of the nodes below a count
abbrev pub keys_below : (ℕ → Place) → ℕ → List ℕ
keys_below places zero = []
keys_below places (suc node) = keys_below places node ++ key_of places node ∷ []

-- the keys of so many nodes at these places, ascending
pub record IsIndex (count : ℕ) (places : ℕ → Place) (keys : List ℕ) : Type 0 where
  pub all : IsPermutation (keys_below places count) keys
  pub rising : IsNonDecreasing keys
