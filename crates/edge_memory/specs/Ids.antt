-- This project's own rule: lists of the numbers of connections.
use Rattle.std.specs.Prelude.{◌==◌, ℕ, Bool, List}
use Rattle.std.specs.List.{list_any}

-- a number is among these
abbrev pub has : ℕ → List ℕ → Bool
has id ids = list_any (λ x. x == id) ids
