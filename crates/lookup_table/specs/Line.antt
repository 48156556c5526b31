-- The lines of a tag table: this project's own rule, after `lookups.dat`.
use Rattle.std.specs.Prelude.{ℕ, Bool, false, not, ◌&&◌, List, [], ◌∷◌, length, take, drop, nat_eq, nat_le, nat_lt, ◌==◌, Option, Some, None, if◌then◌else◌}
use Rattle.std.specs.List.{prefix_len, slice_split, starts_with}
use Rattle.std.specs.Str.{all_ascii_digits, bytes_eq, is_utf8}
use lib.Chars.{codes}
use Rattle.lookup_table.specs.declared.part.Part.{Part}
use Rattle.lookup_table.specs.declared.part.Part.TheVariants.{Way, Node}
use Rattle.lookup_table.specs.Words.{words_of, trimmed}

-- the lines of a text: what stands between the bytes 10
abbrev pub lines_of : List ℕ → List (List ℕ)
lines_of text = slice_split (λ b. b == 10) text

-- a byte that doesn't end a line
abbrev pub is_in_line : ℕ → Bool
is_in_line c = not (c == 10)

-- what a line is
pub data LineForm : Type 0 where
  Skipped : LineForm
  LookupVersion : LineForm
  MinorVersion : LineForm
  Opens : Part → LineForm
  TagLine : List ℕ → List (List ℕ) → LineForm
  Malformed : LineForm

-- a byte that a tag's name may hold: all but `;`, `=` and `|`
abbrev pub is_tag_byte : ℕ → Bool
is_tag_byte c = not (c == 59) && (not (c == 61) && not (c == 124))

-- one or more digits
abbrev pub is_digits : List ℕ → Bool
is_digits text = nat_lt 0 (length text) && all_ascii_digits text

-- a `;` and one or more digits
abbrev pub is_count : List ℕ → Bool
is_count [] = false
is_count (c ∷ cs) = (c == 59) && is_digits cs

-- the tag of the first word of a tag line: a name, a `;` and a count
abbrev pub tag_of : List ℕ → Option (List ℕ)
tag_of word =
    if nat_lt 0 (prefix_len is_tag_byte word) && is_count (drop (prefix_len is_tag_byte word) word)
    then Some (take (prefix_len is_tag_byte word) word) else None

-- a tag line with this tag, if there is one, and these spellings of a value
abbrev pub tag_line : Option (List ℕ) → List (List ℕ) → LineForm
tag_line None spellings = Malformed
tag_line (Some tag) [] = Malformed
tag_line (Some tag) (s ∷ ss) = TagLine tag (s ∷ ss)

-- the line of these words: `tag;count`, a value and any number of aliases
abbrev pub words_form : List (List ℕ) → LineForm
words_form [] = Malformed
words_form (w ∷ ws) = tag_line (tag_of w) ws

-- a version's number: 1 to 9 digits
abbrev pub is_version : List ℕ → Bool
is_version number = nat_le (length number) 9 && is_digits number

-- a version line, if its number is one
abbrev pub version_form : LineForm → List ℕ → LineForm
version_form form number = if is_version number then form else Malformed

-- a line that begins with `---` and is no version: it opens a part or is skipped
abbrev pub context_form : List ℕ → LineForm
context_form line =
    if bytes_eq line (codes "---context:way") then Opens Way
    else (if bytes_eq line (codes "---context:node") then Opens Node else Skipped)

-- a line that begins with `---`
abbrev pub dashes_form : List ℕ → LineForm
dashes_form line =
    if starts_with nat_eq line (codes "---lookupversion:") then version_form LookupVersion (drop 17 line)
    else (if starts_with nat_eq line (codes "---minorversion:") then version_form MinorVersion (drop 16 line)
    else context_form line)

-- a line without the white space at its end
abbrev pub text_form : List ℕ → LineForm
text_form [] = Skipped
text_form (c ∷ cs) =
    if c == 35 then Skipped
    else (if starts_with nat_eq (c ∷ cs) (codes "---") then dashes_form (c ∷ cs)
    else words_form (words_of (c ∷ cs)))

-- a line: where it isn't UTF-8, it isn't of these forms
abbrev pub line_form : List ℕ → LineForm
line_form line = if is_utf8 line then text_form (trimmed line) else Malformed
