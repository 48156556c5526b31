-- The tags that the expressions of a section may name.
use Rattle.std.specs.Prelude.{List, [], Option, Some, None}
use Rattle.lookup_table.specs.First.{rows_of}
use Rattle.lookup_table.specs.Tag.{TagRow}
use Rattle.profile_code.specs.declared.scope.Tags.{Tags}

-- the tags of a part
abbrev pub part_rows : Tags → List TagRow
part_rows tags = rows_of tags.table.now tags.part

-- the tags of a part, or none
abbrev pub rows_in : Option Tags → List TagRow
rows_in None = []
rows_in (Some tags) = part_rows tags
