-- The moves of a scanner, symbol by symbol, for the private clauses: no public clause and no definition of
-- the grammar or of a reading cites them.
use Rattle.std.specs.Prelude.{ℕ, zero, suc, List, [], ◌∷◌, ◌++◌, ◌==◌, Bool, cond, Option, Some, None}
use Rattle.json_text.specs.declared.mode.Bracket.{Bracket}
use Rattle.json_text.specs.declared.mode.Bracket.TheVariants as bracket_
use Rattle.json_text.specs.declared.mode.Part.{Part}
use Rattle.json_text.specs.declared.mode.Part.TheVariants as part_
use Rattle.json_text.specs.declared.mode.Letters.{Letters}
use Rattle.json_text.specs.declared.mode.Letters.TheVariants as letters_
use Rattle.json_text.specs.declared.mode.Tail.{Tail}
use Rattle.json_text.specs.declared.mode.Tail.TheVariants as tail_
use Rattle.json_text.specs.declared.mode.Lead.{Lead}
use Rattle.json_text.specs.declared.mode.Lead.TheVariants as lead_
use Rattle.json_text.specs.declared.mode.Escape.{Escape}
use Rattle.json_text.specs.declared.mode.Escape.TheVariants as escape_
use Rattle.json_text.specs.declared.mode.Start.{Start}
use Rattle.json_text.specs.declared.mode.Start.TheVariants as start_
use Rattle.json_text.specs.declared.mode.Role.{Role}
use Rattle.json_text.specs.declared.mode.Role.TheVariants as role_
use Rattle.json_text.specs.declared.mode.Place.{Place}
use Rattle.json_text.specs.declared.mode.Place.TheVariants as place_
use Rattle.json_text.specs.declared.mode.Mode.{Mode}
use Rattle.json_text.specs.declared.mode.Mode.TheVariants as mode_
use Rattle.json_text.specs.Marks.{Symbol, Byte, End, Step}
use Rattle.json_text.specs.Bytes.{is_space, kind_of, is_hex, lead_of, escape_of, is_in, Any, FromA0, To9F, From90, To8F}
use Rattle.json_text.specs.Chars.{lone, unit_bytes, unit_of, waits, text_step}
use Rattle.json_text.specs.Grammar.{closing}
use Rattle.json_text.specs.Rest.{Kept, keeping, holding, word_of, part_after, may_end}

-- where a scanner goes by a symbol: it reads it, reads it and gives a step, gives a step without reading it,
-- finishes by reading the end, or is stuck
pub data Move : Type 0 where
  Reads : Mode → Kept → Move
  Gives : Step → Mode → Kept → Move
  GivesFirst : Step → Mode → Kept → Move
  Finishes : Move
  Stuck : Move

-- the letter that is wanted next in a word
abbrev pub letter_after : Letters → ℕ
letter_after letters_.T = 114
letter_after letters_.Tr = 117
letter_after letters_.Tru = 101
letter_after letters_.F = 97
letter_after letters_.Fa = 108
letter_after letters_.Fal = 115
letter_after letters_.Fals = 101
letter_after letters_.N = 117
letter_after letters_.Nu = 108
letter_after letters_.Nul = 108

-- the letters that are then read of a word, or nothing where it is whole
abbrev pub letters_after : Letters → Option Letters
letters_after letters_.T = Some letters_.Tr
letters_after letters_.Tr = Some letters_.Tru
letters_after letters_.Tru = None
letters_after letters_.F = Some letters_.Fa
letters_after letters_.Fa = Some letters_.Fal
letters_after letters_.Fal = Some letters_.Fals
letters_after letters_.Fals = None
letters_after letters_.N = Some letters_.Nu
letters_after letters_.Nu = Some letters_.Nul
letters_after letters_.Nul = None

-- the byte is wanted next in a character
abbrev pub fits_tail : Tail → ℕ → Bool
fits_tail tail b = elim tail [
  | tail_.One ↦ is_in Any b
  | tail_.Two ↦ is_in Any b
  | tail_.Three ↦ is_in Any b
  | tail_.BehindE0 ↦ is_in FromA0 b
  | tail_.BehindEd ↦ is_in To9F b
  | tail_.BehindF0 ↦ is_in From90 b
  | tail_.BehindF4 ↦ is_in To8F b
]

-- what is then still to come of a character, or nothing where it is whole
abbrev pub tail_after : Tail → Option Tail
tail_after tail_.One = None
tail_after tail_.Two = Some tail_.One
tail_after tail_.Three = Some tail_.Two
tail_after tail_.BehindE0 = Some tail_.One
tail_after tail_.BehindEd = Some tail_.One
tail_after tail_.BehindF0 = Some tail_.Two
tail_after tail_.BehindF4 = Some tail_.Two

-- a part that a byte begins
abbrev pub start_of_number : Option Part → Start
start_of_number None = start_.Nothing
start_of_number (Some part) = start_.Number part

-- what a byte begins in the place of a value
abbrev pub start_of : ℕ → Start
start_of b =
    cond (b == 34) start_.Quote
    (cond (b == 91) (start_.Open bracket_.Square)
    (cond (b == 123) (start_.Open bracket_.Curly)
    (cond (b == 116) (start_.Word letters_.T)
    (cond (b == 102) (start_.Word letters_.F)
    (cond (b == 110) (start_.Word letters_.N)
    (start_of_number (part_after part_.Nothing (kind_of b))))))))

-- a bracket opens where there is room
abbrev pub open_move : Bracket → ℕ → List Bracket → List ℕ → Move
open_move bracket zero opens content = Stuck
open_move bracket (suc room) opens content =
    Gives (Step.Opens bracket) mode_.First (keeping room (bracket ∷ opens) content)

-- in a value's place
abbrev pub start_move : Start → Kept → ℕ → Move
start_move start_.Quote kept b = Reads (mode_.Text role_.Value (place_.Chars None)) (holding kept [])
start_move (start_.Open bracket) kept b = open_move bracket kept.room kept.opens kept.content
start_move (start_.Word letters) kept b = Reads (mode_.Word letters) kept
start_move (start_.Number part) kept b = Reads (mode_.Number part) (holding kept (b ∷ []))
start_move start_.Nothing kept b = Stuck

-- in the place of a name
abbrev pub name_move : Kept → ℕ → Move
name_move kept b = cond (b == 34) (Reads (mode_.Text role_.Name (place_.Chars None)) (holding kept [])) Stuck

-- in the place of the first entry, and before any other
abbrev pub entry_move : Bracket → Kept → ℕ → Move
entry_move bracket_.Square kept b = start_move (start_of b) kept b
entry_move bracket_.Curly kept b = name_move kept b

-- where the next entry stands, behind a comma
abbrev pub entry_mode : Bracket → Mode
entry_mode bracket_.Square = mode_.Value
entry_mode bracket_.Curly = mode_.Name

-- behind a bracket that opened
abbrev pub first_move : ℕ → List Bracket → List ℕ → ℕ → Move
first_move room [] content b = start_move (start_of b) (keeping room [] content) b
first_move room (bracket ∷ opens) content b =
    cond (b == closing bracket) (Gives (Step.Closes bracket) mode_.After (keeping (suc room) opens content))
    (entry_move bracket (keeping room (bracket ∷ opens) content) b)

-- behind a value
abbrev pub after_move : ℕ → List Bracket → List ℕ → ℕ → Move
after_move room [] content b = Stuck
after_move room (bracket ∷ opens) content b =
    cond (b == closing bracket) (Gives (Step.Closes bracket) mode_.After (keeping (suc room) opens content))
    (cond (b == 44) (Reads (entry_mode bracket) (keeping room (bracket ∷ opens) content)) Stuck)

-- in a word
abbrev pub word_move : Letters → Option Letters → Kept → Move
word_move letters (Some more) kept = Reads (mode_.Word more) kept
word_move letters None kept = Gives (Step.Word (word_of letters)) mode_.After kept

-- where a number can't go on
abbrev pub end_move : Part → Kept → Move
end_move part kept = cond (may_end part) (GivesFirst (Step.Number kept.content) mode_.After (holding kept []))
    Stuck

-- in a number
abbrev pub number_move : Part → Option Part → Kept → ℕ → Move
number_move part (Some next) kept b = Reads (mode_.Number next) (holding kept (kept.content ++ (b ∷ [])))
number_move part None kept b = end_move part kept

-- the mode behind a text
abbrev pub mode_behind : Role → Mode
mode_behind role_.Name = mode_.Colon
mode_behind role_.Value = mode_.After

-- a byte goes into the content, behind what a first half that waited stands for
abbrev pub with_byte : Kept → Option ℕ → ℕ → Kept
with_byte kept waiting b = holding kept ((kept.content ++ lone waiting) ++ (b ∷ []))

-- between quotation marks, where a character may begin
abbrev pub lead_move : (role : Role) (waiting : Option ℕ) (lead : Lead) (kept : Kept) (b : ℕ) → Move
lead_move role w lead_.Quote kept b =
    Gives (text_step role (kept.content ++ lone w)) (mode_behind role) (holding kept [])
lead_move role w lead_.Backslash kept b = Reads (mode_.Text role (place_.Escape w)) kept
lead_move role w lead_.Whole kept b = Reads (mode_.Text role (place_.Chars None)) (with_byte kept w b)
lead_move role w (lead_.Longer tail) kept b = Reads (mode_.Text role (place_.Tail tail)) (with_byte kept w b)
lead_move role w lead_.Nothing kept b = Stuck

-- behind a backslash
abbrev pub escape_move : Role → Option ℕ → Escape → Kept → Move
escape_move role w (escape_.Short b) kept = Reads (mode_.Text role (place_.Chars None)) (with_byte kept w b)
escape_move role w escape_.Coded kept = Reads (mode_.Text role (place_.Hex1 w)) kept
escape_move role w escape_.Nothing kept = Stuck

-- behind a byte of a character
abbrev pub place_after : Option Tail → Place
place_after None = place_.Chars None
place_after (Some tail) = place_.Tail tail

-- behind a byte of a character, by what is still to come
abbrev pub tail_move : Role → Option Tail → Kept → Move
tail_move role next kept = Reads (mode_.Text role (place_after next)) kept

-- between quotation marks
abbrev pub text_move : Role → Place → Kept → ℕ → Move
text_move role (place_.Chars w) kept b = lead_move role w (lead_of b) kept b
text_move role (place_.Escape w) kept b = escape_move role w (escape_of b) kept
text_move role (place_.Hex1 w) kept b = cond (is_hex b) (Reads (mode_.Text role (place_.Hex2 w b)) kept) Stuck
text_move role (place_.Hex2 w x) kept b =
    cond (is_hex b) (Reads (mode_.Text role (place_.Hex3 w x b)) kept) Stuck
text_move role (place_.Hex3 w x y) kept b =
    cond (is_hex b) (Reads (mode_.Text role (place_.Hex4 w x y b)) kept) Stuck
text_move role (place_.Hex4 w x y z) kept b =
    cond (is_hex b)
    (Reads (mode_.Text role (place_.Chars (waits (unit_of x y z b))))
    (holding kept (kept.content ++ unit_bytes w (unit_of x y z b))))
    Stuck
text_move role (place_.Tail tail) kept b =
    cond (fits_tail tail b) (tail_move role (tail_after tail) (holding kept (kept.content ++ (b ∷ [])))) Stuck

-- by a byte
abbrev pub byte_move : Mode → Kept → ℕ → Move
byte_move mode_.Value kept b = cond (is_space b) (Reads mode_.Value kept) (start_move (start_of b) kept b)
byte_move mode_.First kept b =
    cond (is_space b) (Reads mode_.First kept) (first_move kept.room kept.opens kept.content b)
byte_move mode_.After kept b =
    cond (is_space b) (Reads mode_.After kept) (after_move kept.room kept.opens kept.content b)
byte_move mode_.Name kept b = cond (is_space b) (Reads mode_.Name kept) (name_move kept b)
byte_move mode_.Colon kept b =
    cond (is_space b) (Reads mode_.Colon kept) (cond (b == 58) (Reads mode_.Value kept) Stuck)
byte_move (mode_.Word letters) kept b =
    cond (b == letter_after letters) (word_move letters (letters_after letters) kept) Stuck
byte_move (mode_.Number part) kept b = number_move part (part_after part (kind_of b)) kept b
byte_move (mode_.Text role place) kept b = text_move role place kept b

-- by the end of the text
abbrev pub finish_move : List Bracket → Move
finish_move [] = Finishes
finish_move (bracket ∷ opens) = Stuck

-- by the end of the text, at any place
abbrev pub last_move : Mode → Kept → Move
last_move mode_.After kept = finish_move kept.opens
last_move (mode_.Number part) kept = end_move part kept
last_move _ kept = Stuck

-- by a symbol
abbrev pub move_by : Mode → Kept → Symbol → Move
move_by mode kept (Byte b) = byte_move mode kept b
move_by mode kept End = last_move mode kept
