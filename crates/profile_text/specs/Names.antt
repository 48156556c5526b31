-- Names that are assigned one after the other. This project's own rule.
use Rattle.std.specs.Prelude.{ℕ, suc, Bool, true, false, List, [], ◌∷◌, is_some, Option, Some, None}
use Rattle.std.specs.Str.{bytes_eq}

-- the place of the last name of a list, where the one behind its first is known, and whether the first is it
-- too
abbrev pub later_place : Bool → Option ℕ → Option ℕ
later_place first (Some place) = Some (suc place)
later_place true None = Some 0
later_place false None = None

-- the place of the last of these names that is this one
abbrev pub last_place : List (List ℕ) → List ℕ → Option ℕ
last_place [] name = None
last_place (n ∷ ns) name = later_place (bytes_eq name n) (last_place ns name)

-- the name is one of these
abbrev pub is_among : List (List ℕ) → List ℕ → Bool
is_among names name = is_some (last_place names name)
