-- What the code of a case is. This project's own rule.
use Rattle.std.specs.Prelude.{◌≡◌, ℕ, List, ℤ, Ok}
use Rattle.context_check.specs.Checked.{IsAccepted}
use Rattle.lookup_table.specs.First.{TagTable}
use Rattle.profile_code.specs.Flat.{Flat, flat_of}
use Rattle.profile_text.specs.Read.{profile_of}
use Rattle.profile_text.specs.Tree.{Sections}

-- the code is that of the profile of a text, in which nothing is at fault under this table and these
-- overrides
pub record IsCodeIn
    (table : TagTable) (text : List ℕ) (overrides : List (List ℕ × ℤ)) (code : Flat) : Type 0 where
  pub sections : Sections
  pub read : profile_of text ≡ Ok sections
  pub accepted : IsAccepted (record { table = table; sections = sections; overrides = overrides })
  pub code_is : code ≡ flat_of (record { table = table; sections = sections; overrides = overrides })
