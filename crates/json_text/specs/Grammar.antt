-- The grammar of RFC 8259 as a tree that keeps every choice of the writer, with brackets at most 64 deep.
use Rattle.std.specs.Prelude.{ℕ, zero, suc, List, [], ◌∷◌, ◌≡◌}
use Rattle.json_text.specs.declared.mode.Bracket.{Bracket}
use Rattle.json_text.specs.declared.mode.Bracket.TheVariants as bracket_
use Rattle.json_text.specs.declared.mode.Role.TheVariants as role_
use Rattle.json_text.specs.Marks.{Byte, End, Literal, Yes, No, Null, Step, Mark, Seen, Given, see}
use Rattle.json_text.specs.Bytes.{AreAll, is_space}
use Rattle.json_text.specs.Numbers.{IsNumber}
use Rattle.json_text.specs.Chars.{Char, AreChars, print_text}

-- the name of a member, with the space before and behind its colon; an item of an array has none
pub data Name : Type 0 where
  NoName : Name
  Named : List Char → List ℕ → List ℕ → Name

mutual
  -- a word, a number, a text, an array or an object
  pub data Value : Type 0 where
    Word : Literal → Value
    Number : List ℕ → Value
    Text : List Char → Value
    Group : Bracket → Entries → Value

  -- what stands between brackets: space alone, or space, an entry and the others
  pub data Entries : Type 0 where
    Empty : List ℕ → Entries
    Entry : List ℕ → Name → Value → Others → Entries

  -- what follows an entry: space up to the bracket, or space, a comma, space, an entry and the others
  pub data Others : Type 0 where
    Last : List ℕ → Others
    Next : List ℕ → List ℕ → Name → Value → Others → Others

-- the letters of a word
abbrev pub letters_of : Literal → List ℕ
letters_of Yes = 116 ∷ 114 ∷ 117 ∷ 101 ∷ []
letters_of No = 102 ∷ 97 ∷ 108 ∷ 115 ∷ 101 ∷ []
letters_of Null = 110 ∷ 117 ∷ 108 ∷ 108 ∷ []

-- the bracket that opens
abbrev pub opening : Bracket → ℕ
opening bracket_.Square = 91
opening bracket_.Curly = 123

-- the bracket that closes
abbrev pub closing : Bracket → ℕ
closing bracket_.Square = 93
closing bracket_.Curly = 125

-- a closing bracket, and its step
abbrev pub close : Bracket → List Mark → List Mark
close bracket rest = Seen (Byte (closing bracket)) ∷ Given (Step.Closes bracket) ∷ rest

-- a name, its colon and the space round it
abbrev pub print_name : Name → List Mark → List Mark
print_name NoName rest = rest
print_name (Named chars before behind) rest =
    print_text role_.Name chars (see before (Seen (Byte 58) ∷ see behind rest))

-- a value with its steps, and then what follows; brackets are those of the group
abbrev mutual
  pub print_value : Value → List Mark → List Mark
  print_value (Word word) rest = see (letters_of word) (Given (Step.Word word) ∷ rest)
  print_value (Number bytes) rest = see bytes (Given (Step.Number bytes) ∷ rest)
  print_value (Text chars) rest = print_text role_.Value chars rest
  print_value (Group bracket entries) rest =
      Seen (Byte (opening bracket)) ∷ Given (Step.Opens bracket) ∷ print_entries entries bracket rest

  pub print_entries : Entries → Bracket → List Mark → List Mark
  print_entries (Empty space) bracket rest = see space (close bracket rest)
  print_entries (Entry space name value others) bracket rest =
      see space (print_name name (print_value value (print_others others bracket rest)))

  pub print_others : Others → Bracket → List Mark → List Mark
  print_others (Last space) bracket rest = see space (close bracket rest)
  print_others (Next space behind name value others) bracket rest =
      see space (Seen (Byte 44) ∷ see behind
      (print_name name (print_value value (print_others others bracket rest))))

-- an entry of an object has a name, an item of an array has none
abbrev pub IsName : Bracket → Name → Type 0
IsName bracket_.Square NoName = Unit {0}
IsName bracket_.Square (Named chars before behind) = ⊥
IsName bracket_.Curly NoName = ⊥
IsName bracket_.Curly (Named chars before behind) = AreChars chars × AreAll is_space before ×
    AreAll is_space behind

-- a tree is a value of the grammar where so many brackets more may open
abbrev mutual
  pub IsValue : Value → ℕ → Type 0
  IsValue (Word word) room = Unit {0}
  IsValue (Number bytes) room = IsNumber bytes
  IsValue (Text chars) room = AreChars chars
  IsValue (Group bracket entries) zero = ⊥
  IsValue (Group bracket entries) (suc room) = AreEntries entries bracket room

  pub AreEntries : Entries → Bracket → ℕ → Type 0
  AreEntries (Empty space) bracket room = AreAll is_space space
  AreEntries (Entry space name value others) bracket room =
      AreAll is_space space × IsName bracket name × IsValue value room × AreOthers others bracket room

  pub AreOthers : Others → Bracket → ℕ → Type 0
  AreOthers (Last space) bracket room = AreAll is_space space
  AreOthers (Next space behind name value others) bracket room =
      AreAll is_space space × AreAll is_space behind × IsName bracket name × IsValue value room ×
      AreOthers others bracket room

-- a whole text with its steps: space, a value, space, the end
pub record IsText (marks : List Mark) : Type 0 where
  pub before : List ℕ
  pub value : Value
  pub behind : List ℕ
  pub before_is : AreAll is_space before
  pub value_is : IsValue value 64
  pub behind_is : AreAll is_space behind
  pub printed : marks ≡ see before (print_value value (see behind (Seen End ∷ [])))
