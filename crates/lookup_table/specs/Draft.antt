-- How the code takes one line after the other; no public clause cites this.
use Rattle.std.specs.Prelude.{ℕ, suc, min, Bool, true, false, not, ◌&&◌, ◌||◌, List, [], ◌∷◌, is_some, ◌==◌, Option, Some, None, Result, Ok, Err, if◌then◌else◌}
use Rattle.item_list.specs.Answer.{and_then}
use Rattle.lookup_table.specs.declared.draft.Draft.{Draft}
use Rattle.lookup_table.specs.declared.error.LookupError.{LookupError}
use Rattle.lookup_table.specs.declared.error.LookupError.TheVariants.{Line, TooMany, Version, FirstTag}
use Rattle.lookup_table.specs.declared.part.Part.{Part}
use Rattle.lookup_table.specs.declared.part.Part.TheVariants.{Way, Node}
use Rattle.lookup_table.specs.First.{TagTable, begins_as}
use Rattle.lookup_table.specs.Line.{LineForm, Skipped, LookupVersion, MinorVersion, Opens, TagLine, Malformed, line_form, lines_of}
use Rattle.lookup_table.specs.Tag.{add_line, has_room}

-- ---- Lines

-- what follows the end of the first line: nothing, or more lines after its byte 10
abbrev pub lines_after : List ℕ → List (List ℕ)
lines_after [] = []
lines_after (c ∷ cs) = lines_of cs

-- ---- One line after the other

-- one more version line of a kind, two standing for more
abbrev pub one_more : ℕ → ℕ
one_more count = min (suc count) 2

-- nothing was read yet
abbrev pub empty_draft : Draft
empty_draft = record {
  way = [];
  node = [];
  part = None;
  lookups = 0;
  minors = 0;
  late = false;
  has_way = false;
  has_node = false;
}

-- a tag line, where a part is open and has room for it
abbrev pub add_tag_line : (line : ℕ) (tag : List ℕ) (spellings : List (List ℕ)) → Option Part → Draft
    → Result Draft LookupError
add_tag_line line tag spellings None d = Err (Line line)
add_tag_line line tag spellings (Some Way) d =
    if has_room d.way tag then Ok (record d { way = add_line d.way tag spellings }) else Err (TooMany line)
add_tag_line line tag spellings (Some Node) d =
    if has_room d.node tag then Ok (record d { node = add_line d.node tag spellings }) else Err (TooMany line)

-- a line that opens a part, which no line did before
abbrev pub open_part : ℕ → Part → Draft → Result Draft LookupError
open_part line Way d =
    if d.has_way then Err (Line line) else Ok (record d { part = Some Way; has_way = true })
open_part line Node d =
    if d.has_node then Err (Line line) else Ok (record d { part = Some Node; has_node = true })

-- what a draft becomes by a line of this number, or why the line is refused
abbrev pub take_line : ℕ → LineForm → Draft → Result Draft LookupError
take_line line Skipped d = Ok d
take_line line LookupVersion d =
    Ok (record d { lookups = one_more d.lookups; late = d.late || is_some d.part })
take_line line MinorVersion d = Ok (record d { minors = one_more d.minors; late = d.late || is_some d.part })
take_line line (Opens part) d = open_part line part d
take_line line (TagLine tag spellings) d = add_tag_line line tag spellings d.part d
take_line line Malformed d = Err (Line line)

-- what a draft becomes by these lines, the first of this number: the first refusal counts
abbrev pub take_lines : ℕ → List (List ℕ) → Draft → Result Draft LookupError
take_lines line [] d = Ok d
take_lines line (l ∷ ls) d = and_then (take_line line (line_form l) d) (take_lines (suc line) ls)

-- ---- At the end

-- there was exactly one line of each version kind, both before the first part
abbrev pub saw_versions : Draft → Bool
saw_versions d = (d.lookups == 1) && ((d.minors == 1) && not d.late)

-- the table of a draft, or why it is none
abbrev pub finish : Draft → Result TagTable LookupError
finish d =
    if saw_versions d
    then (if begins_as Way d.way
    then (if begins_as Node d.node then Ok (record { way = d.way; node = d.node }) else Err (FirstTag Node))
    else Err (FirstTag Way))
    else Err Version
