-- Texts in a row, with a separator between each two (this project's own rule).
use Rattle.std.specs.Prelude.{ℕ, zero, suc, List, [], ◌∷◌, ◌++◌}
use Rattle.std.specs.List.{flat_map, join_by}

-- each text behind the separator
abbrev pub behind : (separator : List ℕ) (texts : List (List ℕ)) → List ℕ
behind separator texts = flat_map (λ text. separator ++ text) texts

-- the texts, parted by the separator
abbrev pub parted : (separator : List ℕ) (texts : List (List ℕ)) → List ℕ
parted separator texts = join_by (λ text. text) separator texts

-- a tabulator
abbrev pub tab : List ℕ
tab = 9 ∷ []

-- a comma
abbrev pub comma : List ℕ
comma = 44 ∷ []

-- the end of a line
abbrev pub line_end : List ℕ
line_end = 10 ∷ []

-- the comma before an item of this number: none before the first
abbrev pub comma_before : ℕ → List ℕ
comma_before zero = []
comma_before (suc number) = comma
