-- Which links a case closes.
use Rattle.std.specs.Prelude.{ℕ, Bool, List, get_or, not, ◌==◌}

-- whether a link's sign isn't x
abbrev pub is_unmarked : List ℕ → ℕ → Bool
is_unmarked signs link = not (get_or signs link 0 == 120)
