-- The table of a text: this project's own rule, after `lookups.dat`.
use Rattle.std.specs.Prelude.{ℕ, suc, Bool, true, false, not, ◌&&◌, ◌||◌, List, [], ◌∷◌, length, map, reverse, is_some, ◌==◌, Option, Some, None, Result, Ok, Err, if◌then◌else◌}
use Rattle.std.specs.List.{filter, list_any}
use Rattle.std.specs.Option.{option_or}
use Rattle.lookup_table.specs.declared.error.LookupError.{LookupError}
use Rattle.lookup_table.specs.declared.error.LookupError.TheVariants.{Line, TooMany, Version, FirstTag}
use Rattle.lookup_table.specs.declared.part.Part.{Part}
use Rattle.lookup_table.specs.declared.part.Part.TheVariants.{Way, Node}
use Rattle.lookup_table.specs.First.{TagTable, begins_as}
use Rattle.lookup_table.specs.Line.{LineForm, LookupVersion, MinorVersion, Opens, TagLine, Malformed, line_form, lines_of}
use Rattle.lookup_table.specs.Tag.{TagRow, add_line, has_room}

-- ---- What lines say, the latest of them first

-- the part that is open after these lines: that of the last opening among them
abbrev pub part_after : List LineForm → Option Part
part_after [] = None
part_after (Opens part ∷ before) = Some part
part_after (line ∷ before) = part_after before

-- the line opens this part
abbrev pub is_opening : Part → LineForm → Bool
is_opening Way (Opens Way) = true
is_opening Node (Opens Node) = true
is_opening part line = false

-- one of these lines opens this part
abbrev pub is_opened : Part → List LineForm → Bool
is_opened part lines = list_any (is_opening part) lines

-- the open part is this one
abbrev pub is_open : Part → Option Part → Bool
is_open Way (Some Way) = true
is_open Node (Some Node) = true
is_open part now = false

-- the tags of a part: what its own tag lines add, one after the other
abbrev pub rows_after : Part → List LineForm → List TagRow
rows_after part [] = []
rows_after part (TagLine tag spellings ∷ before) =
    if is_open part (part_after before) then add_line (rows_after part before) tag spellings
    else rows_after part before
rows_after part (line ∷ before) = rows_after part before

-- ---- The first line at fault

-- why a line of this number that names a tag can't stand where this part is open: there is none, or no room
-- for one more value
abbrev pub tag_fault : ℕ → List ℕ → Option Part → List LineForm → Option LookupError
tag_fault number tag None before = Some (Line number)
tag_fault number tag (Some part) before =
    if has_room (rows_after part before) tag then None else Some (TooMany number)

-- why a line of this number can't stand after these: it is malformed, opens a part again, or is a tag line
-- that can't stand there
abbrev pub line_fault : ℕ → LineForm → List LineForm → Option LookupError
line_fault number Malformed before = Some (Line number)
line_fault number (Opens part) before = if is_opened part before then Some (Line number) else None
line_fault number (TagLine tag spellings) before = tag_fault number tag (part_after before) before
line_fault number line before = None

-- the fault of the first line that has one; lines are numbered from 1
abbrev pub first_fault : List LineForm → Option LookupError
first_fault [] = None
first_fault (line ∷ before) = option_or (first_fault before) (line_fault (suc (length before)) line before)

-- ---- The whole

-- the line is a version of the table's form
abbrev pub is_lookup_version : LineForm → Bool
is_lookup_version LookupVersion = true
is_lookup_version line = false

-- the line is a version of the table's content
abbrev pub is_minor_version : LineForm → Bool
is_minor_version MinorVersion = true
is_minor_version line = false

-- a version line stands after an opening
abbrev pub has_late_version : List LineForm → Bool
has_late_version [] = false
has_late_version (line ∷ before) =
    has_late_version before
    || ((is_lookup_version line || is_minor_version line) && is_some (part_after before))

-- each version line stands exactly once, before the first opening
abbrev pub has_versions : List LineForm → Bool
has_versions lines =
    (length (filter is_lookup_version lines) == 1)
    && ((length (filter is_minor_version lines) == 1) && not (has_late_version lines))

-- the table of lines that can stand where they are, or the first fault of the whole
abbrev pub whole_table : List LineForm → Result TagTable LookupError
whole_table lines =
    if has_versions lines
    then (if begins_as Way (rows_after Way lines)
    then (if begins_as Node (rows_after Node lines)
    then Ok (record { way = rows_after Way lines; node = rows_after Node lines })
    else Err (FirstTag Node))
    else Err (FirstTag Way))
    else Err Version

-- the fault, or the table where there is none
abbrev pub unless_fault : Option LookupError → Result TagTable LookupError → Result TagTable LookupError
unless_fault (Some fault) table = Err fault
unless_fault None table = table

-- the lines of a text, the last first
abbrev pub forms_of : List ℕ → List LineForm
forms_of text = reverse (map line_form (lines_of text))

-- the table of a text, or the first refusal in order: that of the first line at fault, then that of the whole
unfoldable pub table_of : List ℕ → Result TagTable LookupError
table_of text = unless_fault (first_fault (forms_of text)) (whole_table (forms_of text))
