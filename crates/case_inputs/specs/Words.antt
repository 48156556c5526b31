-- This project's own rule: the words of a case, and names among which one is looked for.
use Rattle.std.specs.Prelude.{◌≡◌, ◌≢◌, ◌<◌, ◌≤◌, ℕ, List, [], Option, Some, None, Vec, length, slice_get}
use Rattle.std.specs.Borrow.{Bor}
use Rattle.std.specs.declared.alloc.Global.{Global}

-- the bytes of a word, and none where there is no word
abbrev pub bytes_in : Option (Vec ℕ Global) → List ℕ
bytes_in None = []
bytes_in (Some word) = word.items

-- the word at a place, and the empty one where there is none
abbrev pub word_at : List (Vec ℕ Global) → ℕ → List ℕ
word_at words place = bytes_in (slice_get words place)

-- the bytes of a name, if there is one
abbrev pub bytes_of : Option (Bor (List ℕ)) → Option (List ℕ)
bytes_of None = None
bytes_of (Some name) = Some name.now

-- the name at a place of a list of names, if there is one
abbrev pub name_at : List (Bor (List ℕ)) → ℕ → Option (List ℕ)
name_at names place = bytes_of (slice_get names place)

-- a place is the first one of a word in a list of names, or their number where it is none of them
pub record IsPlaceOf (names : List (Bor (List ℕ))) (word : List ℕ) (place : ℕ) : Type 0 where
  pub within : place ≤ length names
  pub found : place < length names → name_at names place ≡ Some word
  pub only : (k : ℕ) → k < place → name_at names k ≢ Some word
