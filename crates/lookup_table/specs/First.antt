-- A table's parts, and the tag that each begins with, after `lookups.dat`.
use Rattle.std.specs.Prelude.{ℕ, Bool, false, ◌&&◌, List, [], ◌∷◌}
use Rattle.std.specs.Str.{bytes_eq}
use lib.Chars.{codes}
use Rattle.lookup_table.specs.declared.part.Part.{Part}
use Rattle.lookup_table.specs.declared.part.Part.TheVariants.{Way, Node}
use Rattle.lookup_table.specs.Tag.{TagRow}

-- the first value's first spelling is `yes`
abbrev pub begins_with_yes : List (List ℕ) → Bool
begins_with_yes [] = false
begins_with_yes (s ∷ ss) = bytes_eq s (codes "yes")

-- a part begins with the tag of this name, whose first value is `yes`
abbrev pub begins_with : List TagRow → List ℕ → Bool
begins_with [] name = false
begins_with (t ∷ ts) name = bytes_eq t.name name && begins_with_yes t.firsts

-- the tag that a part begins with
abbrev pub first_name : Part → List ℕ
first_name Way = codes "reversedirection"
first_name Node = codes "nodeaccessgranted"

-- the tags of a part begin with that tag
abbrev pub begins_as : Part → List TagRow → Bool
begins_as part rows = begins_with rows (first_name part)

-- the tags of ways and of nodes
pub record TagTable : Type 0 where
  pub way : List TagRow
  pub node : List TagRow

-- the tags of a part
abbrev pub rows_of : TagTable → Part → List TagRow
rows_of t Way = t.way
rows_of t Node = t.node
