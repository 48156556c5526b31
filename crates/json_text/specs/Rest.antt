-- What may follow in a text, said in the grammar's own words for each place where a scanner may stand.
use Rattle.std.specs.Prelude.{ℕ, suc, List, [], ◌∷◌, ◌++◌, ◌≡◌, ◌⊎◌, Bool, true, false, Option, Some, None}
use Rattle.json_text.specs.declared.mode.Bracket.{Bracket}
use Rattle.json_text.specs.declared.mode.Kind.{Kind}
use Rattle.json_text.specs.declared.mode.Kind.TheVariants as kind_
use Rattle.json_text.specs.declared.mode.Part.{Part}
use Rattle.json_text.specs.declared.mode.Part.TheVariants as part_
use Rattle.json_text.specs.declared.mode.Letters.{Letters}
use Rattle.json_text.specs.declared.mode.Letters.TheVariants as letters_
use Rattle.json_text.specs.declared.mode.Tail.{Tail}
use Rattle.json_text.specs.declared.mode.Role.{Role}
use Rattle.json_text.specs.declared.mode.Role.TheVariants as role_
use Rattle.json_text.specs.declared.mode.Place.{Place}
use Rattle.json_text.specs.declared.mode.Place.TheVariants as place_
use Rattle.json_text.specs.declared.mode.Mode.{Mode}
use Rattle.json_text.specs.declared.mode.Mode.TheVariants as mode_
use Rattle.json_text.specs.Marks.{Symbol, Byte, End, Literal, Yes, No, Null, Step, Mark, Seen, Given, see, symbols_of, Begins}
use Rattle.json_text.specs.Bytes.{AreAll, is_space, kind_of, AreIn, ranges_of, is_hex}
use Rattle.json_text.specs.Chars.{Char, Coded, Short, IsChar, AreChars, print_chars, print_text, close_text, content_of}
use Rattle.json_text.specs.Grammar.{Value, Entries, Others, print_value, print_entries, print_others, IsValue, AreEntries, AreOthers, IsText}

-- what is known of a place in a text beside its mode: how many brackets may still open, those that are open,
-- the innermost first, and the content so far of the text or the number
pub record Kept : Type 0 where
  pub room : ℕ
  pub opens : List Bracket
  pub content : List ℕ

-- the same by its parts
abbrev pub keeping : ℕ → List Bracket → List ℕ → Kept
keeping room opens content = record { room = room; opens = opens; content = content }

-- the same with another content
abbrev pub holding : Kept → List ℕ → Kept
holding kept content = record kept { content = content }

-- behind a value, inside the brackets that are open, the innermost first, where so many more may open
abbrev pub After : ℕ → List Bracket → List Mark → Type 0
After room [] marks = (space : List ℕ) × AreAll is_space space × (marks ≡ see space (Seen End ∷ []))
After room (bracket ∷ opens) marks =
    (others : Others) × (rest : List Mark) × AreOthers others bracket room ×
    (marks ≡ print_others others bracket rest)
    × After (suc room) opens rest

-- before a value
abbrev pub BeforeValue : ℕ → List Bracket → List Mark → Type 0
BeforeValue room opens marks =
    (space : List ℕ) × (value : Value) × (rest : List Mark) × AreAll is_space space × IsValue value room
    × (marks ≡ see space (print_value value rest)) × After room opens rest

-- behind the name of a member
abbrev pub BeforeColon : ℕ → List Bracket → List Mark → Type 0
BeforeColon room opens marks =
    (space : List ℕ) × (rest : List Mark) × AreAll is_space space ×
    (marks ≡ see space (Seen (Byte 58) ∷ rest))
    × BeforeValue room opens rest

-- before the name of a member
abbrev pub BeforeName : ℕ → List Bracket → List Mark → Type 0
BeforeName room opens marks =
    (space : List ℕ) × (chars : List Char) × (rest : List Mark) × AreAll is_space space × AreChars chars
    × (marks ≡ see space (print_text role_.Name chars rest)) × BeforeColon room opens rest

-- behind a bracket that opened; where none is open, as before any value
abbrev pub BeforeFirst : ℕ → List Bracket → List Mark → Type 0
BeforeFirst room [] marks = BeforeValue room [] marks
BeforeFirst room (bracket ∷ opens) marks =
    (entries : Entries) × (rest : List Mark) × AreEntries entries bracket room ×
    (marks ≡ print_entries entries bracket rest)
    × After (suc room) opens rest

-- the word of which these letters were read
abbrev pub word_of : Letters → Literal
word_of letters_.T = Yes
word_of letters_.Tr = Yes
word_of letters_.Tru = Yes
word_of letters_.F = No
word_of letters_.Fa = No
word_of letters_.Fal = No
word_of letters_.Fals = No
word_of letters_.N = Null
word_of letters_.Nu = Null
word_of letters_.Nul = Null

-- the letters that are still to come of a word
abbrev pub letters_left : Letters → List ℕ
letters_left letters_.T = 114 ∷ 117 ∷ 101 ∷ []
letters_left letters_.Tr = 117 ∷ 101 ∷ []
letters_left letters_.Tru = 101 ∷ []
letters_left letters_.F = 97 ∷ 108 ∷ 115 ∷ 101 ∷ []
letters_left letters_.Fa = 108 ∷ 115 ∷ 101 ∷ []
letters_left letters_.Fal = 115 ∷ 101 ∷ []
letters_left letters_.Fals = 101 ∷ []
letters_left letters_.N = 117 ∷ 108 ∷ 108 ∷ []
letters_left letters_.Nu = 108 ∷ 108 ∷ []
letters_left letters_.Nul = 108 ∷ []

-- the part of a number that a byte of a kind continues, behind a part
abbrev pub part_after : Part → Kind → Option Part
part_after part_.Nothing kind_.Minus = Some part_.Minus
part_after part_.Nothing kind_.Zero = Some part_.Zero
part_after part_.Nothing kind_.Digit = Some part_.Whole
part_after part_.Minus kind_.Zero = Some part_.Zero
part_after part_.Minus kind_.Digit = Some part_.Whole
part_after part_.Zero kind_.Point = Some part_.Point
part_after part_.Zero kind_.Letter = Some part_.Letter
part_after part_.Whole kind_.Zero = Some part_.Whole
part_after part_.Whole kind_.Digit = Some part_.Whole
part_after part_.Whole kind_.Point = Some part_.Point
part_after part_.Whole kind_.Letter = Some part_.Letter
part_after part_.Point kind_.Zero = Some part_.Fraction
part_after part_.Point kind_.Digit = Some part_.Fraction
part_after part_.Fraction kind_.Zero = Some part_.Fraction
part_after part_.Fraction kind_.Digit = Some part_.Fraction
part_after part_.Fraction kind_.Letter = Some part_.Letter
part_after part_.Letter kind_.Zero = Some part_.Exponent
part_after part_.Letter kind_.Digit = Some part_.Exponent
part_after part_.Letter kind_.Plus = Some part_.Sign
part_after part_.Letter kind_.Minus = Some part_.Sign
part_after part_.Sign kind_.Zero = Some part_.Exponent
part_after part_.Sign kind_.Digit = Some part_.Exponent
part_after part_.Exponent kind_.Zero = Some part_.Exponent
part_after part_.Exponent kind_.Digit = Some part_.Exponent
part_after _ _ = None

-- behind these parts a number may end
abbrev pub may_end : Part → Bool
may_end part_.Zero = true
may_end part_.Whole = true
may_end part_.Fraction = true
may_end part_.Exponent = true
may_end _ = false

-- these parts go on with each digit
abbrev pub takes_digits : Part → Bool
takes_digits part_.Whole = true
takes_digits part_.Fraction = true
takes_digits part_.Exponent = true
takes_digits _ = false

-- a part is there, and a fact holds of it
abbrev pub OnPart : Option Part → (Part → Type 0) → Type 0
OnPart None fact = ⊥
OnPart (Some part) fact = fact part

-- the bytes complete a number of which this part was read last
abbrev pub Completes : List ℕ → Part → Type 0
Completes [] part = may_end part ≡ true
Completes (b ∷ bytes) part = OnPart (part_after part (kind_of b)) (Completes bytes)

-- behind a text between quotation marks
abbrev pub Behind : Role → ℕ → List Bracket → List Mark → Type 0
Behind role_.Name room opens marks = BeforeColon room opens marks
Behind role_.Value room opens marks = After room opens marks

-- before characters of a text, whose content so far is given, and a first half may wait
abbrev pub InText : Role → Kept → Option ℕ → List Mark → Type 0
InText role kept waiting marks =
    (chars : List Char) × (rest : List Mark) × AreChars chars
    × (marks ≡ print_chars chars (close_text role (kept.content ++ content_of waiting chars) rest))
    × Behind role kept.room kept.opens rest

-- the last bytes of a character, and then what follows it
abbrev pub InChar : (role : Role) (kept : Kept) (waiting : Option ℕ) (char : Char) (bytes : List ℕ) (marks :
    List Mark)
    → Type 0
InChar role kept waiting char bytes marks =
    (chars : List Char) × (rest : List Mark) × IsChar char × AreChars chars
    ×
    (marks ≡ see bytes (print_chars chars
    (close_text role (kept.content ++ content_of waiting (char ∷ chars)) rest)))
    × Behind role kept.room kept.opens rest

-- behind a backslash
abbrev pub InEscape : Role → Kept → Option ℕ → List Mark → Type 0
InEscape role kept waiting marks =
    ((b : ℕ) × (letter : ℕ) × InChar role kept waiting (Short b letter) (letter ∷ []) marks)
    ⊎ ((a : ℕ) × (b : ℕ) × (c : ℕ) × (d : ℕ) ×
    InChar role kept waiting (Coded a b c d) (117 ∷ a ∷ b ∷ c ∷ d ∷ []) marks)

-- the last digits of a code unit, and then what follows it
abbrev pub InDigits : (role : Role) (kept : Kept) (waiting : Option ℕ) (char : Char) (digits : List ℕ)
    (marks : List Mark)
    → Type 0
InDigits role kept waiting char digits marks =
    (chars : List Char) × (rest : List Mark) × AreAll is_hex digits × AreChars chars
    ×
    (marks ≡ see digits (print_chars chars
    (close_text role (kept.content ++ content_of waiting (char ∷ chars)) rest)))
    × Behind role kept.room kept.opens rest

-- inside a character of several bytes
abbrev pub InBytes : Role → Kept → Tail → List Mark → Type 0
InBytes role kept tail marks =
    (bytes : List ℕ) × (chars : List Char) × (rest : List Mark) × AreIn (ranges_of tail) bytes ×
    AreChars chars
    ×
    (marks ≡ see bytes (print_chars chars
    (close_text role (kept.content ++ (bytes ++ content_of None chars)) rest)))
    × Behind role kept.room kept.opens rest

-- between quotation marks
abbrev pub RestOfText : Role → Place → Kept → List Mark → Type 0
RestOfText role (place_.Chars w) kept marks = InText role kept w marks
RestOfText role (place_.Escape w) kept marks = InEscape role kept w marks
RestOfText role (place_.Hex1 w) kept marks =
    (a : ℕ) × (b : ℕ) × (c : ℕ) × (d : ℕ) × InDigits role kept w (Coded a b c d) (a ∷ b ∷ c ∷ d ∷ []) marks
RestOfText role (place_.Hex2 w a) kept marks =
    (b : ℕ) × (c : ℕ) × (d : ℕ) × InDigits role kept w (Coded a b c d) (b ∷ c ∷ d ∷ []) marks
RestOfText role (place_.Hex3 w a b) kept marks =
    (c : ℕ) × (d : ℕ) × InDigits role kept w (Coded a b c d) (c ∷ d ∷ []) marks
RestOfText role (place_.Hex4 w a b c) kept marks =
    (d : ℕ) × InDigits role kept w (Coded a b c d) (d ∷ []) marks
RestOfText role (place_.Tail tail) kept marks = InBytes role kept tail marks

-- what may follow at a place of a text, by what is known of it
abbrev pub Rest : Mode → Kept → List Mark → Type 0
Rest mode_.Value kept marks = BeforeValue kept.room kept.opens marks
Rest mode_.First kept marks = BeforeFirst kept.room kept.opens marks
Rest mode_.After kept marks = After kept.room kept.opens marks
Rest mode_.Name kept marks = BeforeName kept.room kept.opens marks
Rest mode_.Colon kept marks = BeforeColon kept.room kept.opens marks
Rest (mode_.Word letters) kept marks =
    (rest : List Mark) × (marks ≡ see (letters_left letters) (Given (Step.Word (word_of letters)) ∷ rest))
    × After kept.room kept.opens rest
Rest (mode_.Number part) kept marks =
    (bytes : List ℕ) × (rest : List Mark) × Completes bytes part
    × (marks ≡ see bytes (Given (Step.Number (kept.content ++ bytes)) ∷ rest)) ×
    After kept.room kept.opens rest
Rest (mode_.Text role place) kept marks = RestOfText role place kept marks

-- the marks were read up to a place: what goes on from them to a whole text is what may follow there. Each
-- text that begins with their symbols and the next one begins with the marks; and of other marks with these
-- symbols that begin some text, one is the beginning of the other
pub record IsFrontOf (front : List Mark) (next : List Symbol) (mode : Mode) (kept : Kept) : Type 0 where
  pub forth : (rest : List Mark) → IsText (front ++ rest) → Rest mode kept rest
  pub back : (rest : List Mark) → Rest mode kept rest → IsText (front ++ rest)
  pub only : (text : List Mark) → IsText text → Begins (symbols_of front ++ next) (symbols_of text) →
      Begins front text
  pub kin : (other rest : List Mark) → IsText (other ++ rest) → symbols_of other ≡ symbols_of front
      → Begins other front ⊎ Begins front other

-- the first symbol, where there is one
abbrev pub first_of : List Symbol → List Symbol
first_of [] = []
first_of (x ∷ others) = x ∷ []
