-- The words of a line: what stands between white space.
use Rattle.std.specs.Prelude.{ℕ, Bool, true, false, not, ◌&&◌, List, [], ◌∷◌, filter, if◌then◌else◌}
use Rattle.std.specs.List.{slice_split}
use Rattle.item_list.specs.Bytes.{is_space}

-- a byte that isn't white space
abbrev pub is_ink : ℕ → Bool
is_ink c = not (is_space c)

-- a list that isn't empty
abbrev pub is_some_text : List ℕ → Bool
is_some_text [] = false
is_some_text (c ∷ cs) = true

-- the words of a text, in order
abbrev pub words_of : List ℕ → List (List ℕ)
words_of text = filter is_some_text (slice_split is_space text)

-- a text without the white space at its end
abbrev pub trimmed : List ℕ → List ℕ
trimmed [] = []
trimmed (c ∷ cs) = if is_space c && not (is_some_text (trimmed cs)) then [] else c ∷ trimmed cs
