-- Why a word behind a command is at fault. This project's own rule.
use Rattle.std.specs.List.{find}
use Rattle.std.specs.Prelude.{ℕ, ◌==◌, Bool, cond, ◌&&◌, ◌||◌, nat_lt, Option, Some, None, Ok, Err, List, [], ◌++◌, length, codes, decimal}
use Rattle.command_words.specs.Given.{Given}
use Rattle.command_words.specs.Help.{form_text}
use Rattle.command_words.specs.Reader.{count_of, entries_after, entry_of, has_profile_of, key_of, most_of, row_for, same_key}
use Rattle.command_words.specs.Value.{cut_word}
use Rattle.command_words.specs.declared.reason.Reason.{Reason}
use Rattle.command_words.specs.declared.reason.Reason.TheVariants as reason
use Rattle.command_words.specs.declared.rows.Form.{Form}
use Rattle.command_words.specs.declared.rows.Form.TheVariants.{Number, Place, Product, File, ProfileFile, Query, Address, Cost}
use Rattle.command_words.specs.declared.rows.Key.{Key}
use Rattle.command_words.specs.declared.rows.Key.TheVariants as key_
use Rattle.command_words.specs.declared.rows.KeyRow.{KeyRow}

-- a value that isn't of its form
abbrev pub value_reason : Form → List ℕ → Reason
value_reason form text = cond (length text == 0) reason.Empty (reason.Value form)

-- a value at fault of a key that may have no row
abbrev pub row_reason : List ℕ → Option KeyRow → Reason
row_reason text None = reason.OtherKey
row_reason text (Some row) = value_reason row.form text

-- a value at fault of what may be no key
abbrev pub key_reason : List KeyRow → List ℕ → Option Key → Reason
key_reason keys text None = reason.UnknownKey
key_reason keys text (Some key) = row_reason text (row_for keys key)

-- a word at fault by itself, by its two parts
abbrev pub cut_reason : List KeyRow → Option (List ℕ × List ℕ) → Reason
cut_reason keys None = reason.NoEquals
cut_reason keys (Some parts) = key_reason keys parts.1 (key_of parts.0)

-- what is at fault of a word that might be read: the query asks for no first track, or the place lies outside
-- its grid
unfoldable pub lone_reason : Key → Reason
lone_reason key_.Query = reason.NotFirst
lone_reason key = reason.OutsideGrid

-- what a word gives, at fault behind what those before it give
unfoldable pub later_reason : List KeyRow → List Given → Given → Reason
later_reason keys before entry =
    cond (nat_lt (count_of entry.key before) (most_of keys entry.key))
    (cond (has_profile_of entry before) reason.SameProfile (lone_reason entry.key))
    (reason.Repeated (most_of keys entry.key))

-- why a word is at fault that gives this, if anything
abbrev pub given_reason : List KeyRow → List Given → List ℕ → Option Given → Reason
given_reason keys before text None = cut_reason keys (cut_word text)
given_reason keys before text (Some entry) = later_reason keys before entry

-- why a word is at fault behind words that give these over the rows
unfoldable pub reason_of : List KeyRow → List Given → List ℕ → Reason
reason_of keys before text = given_reason keys before text (entry_of keys 0 text)

-- what a value isn't
unfoldable pub value_text : Form → List ℕ
value_text (Number low high) = codes "no number of the range " ++ form_text (Number low high)
value_text Place = codes "no place, as 3,4"
value_text Product = codes "neither map nor hgt"
value_text File = codes "no name of a file"
value_text ProfileFile = codes "no name for a profile: it has 1 to 64 letters, digits, _ or -, and doesn't begin with custom_"
value_text Query = codes "no query"
value_text Address = codes "no address, as 127.0.0.1:17777"
value_text Cost = codes "no cost: it is a number from 0 to 1000000000"

-- a key that came as often as it may
unfoldable pub repeated_text : ℕ → List ℕ
repeated_text most = cond (most == 1) (codes "given twice") (codes "given more often than " ++ (decimal most ++ codes " times"))

-- a reason in words
unfoldable pub reason_text : Reason → List ℕ
reason_text reason.NoEquals = codes "no KEY=VALUE"
reason_text reason.UnknownKey = codes "unknown key"
reason_text reason.OtherKey = codes "no key of this command"
reason_text reason.Empty = codes "value empty"
reason_text (reason.Value form) = value_text form
reason_text (reason.Repeated most) = repeated_text most
reason_text reason.SameProfile = codes "a profile of this name is given twice"
reason_text reason.OutsideGrid = codes "outside the grid"
reason_text reason.NotFirst = codes "the query asks for another alternative than 0"

-- what words give over the rows, nothing where one of them is at fault
abbrev pub given_before : List KeyRow → List (List ℕ) → List Given
given_before keys texts = elim (entries_after keys [] texts) [
  | Ok entries ↦ entries
  | Err word ↦ []
]

-- a key is the file of a tag table or of a profile, of which neither comes alone
abbrev pub is_paired : Key → Bool
is_paired key = same_key key key_.Lookups || same_key key key_.Profile

-- the row of the first key that entries give less often than it is wanted
abbrev pub first_missing : List KeyRow → List Given → Option KeyRow
first_missing keys entries = find (λ r. nat_lt (count_of r.key entries) r.least) keys

-- the row of the first of such a pair that none gives
abbrev pub missing_pair : List KeyRow → List Given → Option KeyRow
missing_pair keys entries = find (λ r. is_paired r.key && (count_of r.key entries == 0)) keys

-- the row of the first key that entries give less often than it is wanted; else of that without which its pair
-- isn't taken
abbrev pub missing_by : Option KeyRow → Option KeyRow → Option KeyRow
missing_by None other = other
missing_by (Some row) other = Some row

unfoldable pub missing_in : List KeyRow → List Given → Option KeyRow
missing_in keys entries = missing_by (first_missing keys entries) (missing_pair keys entries)
