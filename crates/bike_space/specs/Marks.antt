-- Which numbers are marked (this project's own rule).
use Rattle.std.specs.Prelude.{ℕ, Bool, false, List, get_or}

-- the number is marked in a list; what is behind its end isn't
abbrev pub is_marked : List Bool → ℕ → Bool
is_marked marks number = get_or marks number false
