-- What looks come to for the code; this joins it to the meaning of expressions.
use Rattle.std.specs.Prelude.{ℕ, Bool, true, false, List, Option}
use Rattle.lookup_table.specs.Tag.{TagRow}
use Rattle.profile_text.specs.Meaning.{looks_in, no_looks}

-- the tags of a part with the tag numbers of a way or a node
pub record TagNumbers : Type 0 where
  pub rows : List TagRow
  pub numbers : List ℕ

-- what looks come to among them; the global section has no looks
abbrev pub looks_among : Bool → TagNumbers → List ℕ → List (List ℕ) → Option Bool
looks_among true t = looks_in t.rows t.numbers
looks_among false t = no_looks
