-- How the code parts a text at a mark; no public clause cites this.
use Rattle.std.specs.Prelude.{ℕ, Bool, not, ◌==◌, List, [], ◌∷◌}
use Rattle.route_http.specs.List.{parts_of}

-- a byte that parts nothing
abbrev pub is_in_part : (mark : ℕ) → ℕ → Bool
is_in_part mark c = not (c == mark)

-- what follows the first part: nothing, or more parts after its mark
abbrev pub parts_after : (mark : ℕ) → List ℕ → List (List ℕ)
parts_after mark [] = []
parts_after mark (c ∷ cs) = parts_of mark cs
