-- From each place some symbol goes on to a whole text.
use Rattle.std.proofs.Common.{ℕ, suc, inl, List, [], ◌∷◌, refl}
use Rattle.json_text.specs.declared.mode.Bracket.{Bracket}
use Rattle.json_text.specs.declared.mode.Part.{Part}
use Rattle.json_text.specs.declared.mode.Part.TheVariants as part_
use Rattle.json_text.specs.declared.mode.Letters.{Letters}
use Rattle.json_text.specs.declared.mode.Letters.TheVariants as letters_
use Rattle.json_text.specs.declared.mode.Tail.{Tail}
use Rattle.json_text.specs.declared.mode.Tail.TheVariants as tail_
use Rattle.json_text.specs.declared.mode.Role.{Role}
use Rattle.json_text.specs.declared.mode.Role.TheVariants as role_
use Rattle.json_text.specs.declared.mode.Place.{Place}
use Rattle.json_text.specs.declared.mode.Place.TheVariants as place_
use Rattle.json_text.specs.declared.mode.Mode.{Mode}
use Rattle.json_text.specs.declared.mode.Mode.TheVariants as mode_
use Rattle.json_text.specs.Marks.{Symbol, Byte, End, Null, Mark, Seen}
use Rattle.json_text.specs.Grammar.{Word, Empty, Last, closing, print_others}
use Rattle.json_text.specs.Rest.{Kept, keeping, After, BeforeValue, BeforeColon, Behind, Rest}

-- every bracket can be closed
pub closes : (room : ℕ) (opens : List Bracket) → (rest : List Mark) × After room opens rest
closes room [] = (Seen End ∷ [], ([], tt, refl))
closes room (bracket ∷ opens) = let c = closes (suc room) opens in (print_others (Last []) bracket c.0, (Last [], c.0, tt, refl, c.1))

-- some symbol may follow at a place, and go on
pub record Alive (mode : Mode) (kept : Kept) : Type 0 where
  pub symbol : Symbol
  pub rest : List Mark
  pub follows : Rest mode kept (Seen symbol ∷ rest)

-- a number goes on or is completed from each of its parts
number_more : (part : Part) (kept : Kept) → Alive (mode_.Number part) kept
number_more part_.Nothing kept = let c = closes kept.room kept.opens in
    record { symbol = Byte 48; rest = _; follows = (48 ∷ [], c.0, refl, refl, c.1) }
number_more part_.Minus kept = let c = closes kept.room kept.opens in
    record { symbol = Byte 48; rest = _; follows = (48 ∷ [], c.0, refl, refl, c.1) }
number_more part_.Zero kept = let c = closes kept.room kept.opens in
    record { symbol = Byte 46; rest = _; follows = (46 ∷ 48 ∷ [], c.0, refl, refl, c.1) }
number_more part_.Whole kept = let c = closes kept.room kept.opens in
    record { symbol = Byte 48; rest = _; follows = (48 ∷ [], c.0, refl, refl, c.1) }
number_more part_.Point kept = let c = closes kept.room kept.opens in
    record { symbol = Byte 48; rest = _; follows = (48 ∷ [], c.0, refl, refl, c.1) }
number_more part_.Fraction kept = let c = closes kept.room kept.opens in
    record { symbol = Byte 48; rest = _; follows = (48 ∷ [], c.0, refl, refl, c.1) }
number_more part_.Letter kept = let c = closes kept.room kept.opens in
    record { symbol = Byte 48; rest = _; follows = (48 ∷ [], c.0, refl, refl, c.1) }
number_more part_.Sign kept = let c = closes kept.room kept.opens in
    record { symbol = Byte 48; rest = _; follows = (48 ∷ [], c.0, refl, refl, c.1) }
number_more part_.Exponent kept = let c = closes kept.room kept.opens in
    record { symbol = Byte 48; rest = _; follows = (48 ∷ [], c.0, refl, refl, c.1) }

-- a word goes on from each of its letters
word_more : (letters : Letters) (kept : Kept) → Alive (mode_.Word letters) kept
word_more letters_.T kept = let c = closes kept.room kept.opens in record { symbol = Byte 114; rest = _; follows = (c.0, refl, c.1) }
word_more letters_.Tr kept = let c = closes kept.room kept.opens in record { symbol = Byte 117; rest = _; follows = (c.0, refl, c.1) }
word_more letters_.Tru kept = let c = closes kept.room kept.opens in record { symbol = Byte 101; rest = _; follows = (c.0, refl, c.1) }
word_more letters_.F kept = let c = closes kept.room kept.opens in record { symbol = Byte 97; rest = _; follows = (c.0, refl, c.1) }
word_more letters_.Fa kept = let c = closes kept.room kept.opens in record { symbol = Byte 108; rest = _; follows = (c.0, refl, c.1) }
word_more letters_.Fal kept = let c = closes kept.room kept.opens in record { symbol = Byte 115; rest = _; follows = (c.0, refl, c.1) }
word_more letters_.Fals kept = let c = closes kept.room kept.opens in record { symbol = Byte 101; rest = _; follows = (c.0, refl, c.1) }
word_more letters_.N kept = let c = closes kept.room kept.opens in record { symbol = Byte 117; rest = _; follows = (c.0, refl, c.1) }
word_more letters_.Nu kept = let c = closes kept.room kept.opens in record { symbol = Byte 108; rest = _; follows = (c.0, refl, c.1) }
word_more letters_.Nul kept = let c = closes kept.room kept.opens in record { symbol = Byte 108; rest = _; follows = (c.0, refl, c.1) }

-- a value, and what may follow a name
value_more : (room : ℕ) (opens : List Bracket) → (rest : List Mark) × BeforeValue room opens (Seen (Byte 110) ∷ rest)
value_more room opens = let c = closes room opens in (_, ([], Word Null, c.0, tt, tt, refl, c.1))

-- a colon and a value may follow a name
colon_more : (room : ℕ) (opens : List Bracket) → (rest : List Mark) × BeforeColon room opens (Seen (Byte 58) ∷ rest)
colon_more room opens = let v = value_more room opens in (_, ([], Seen (Byte 110) ∷ v.0, tt, refl, v.1))

-- something may follow a text between quotation marks
behind_more : (role : Role) (room : ℕ) (opens : List Bracket) → (rest : List Mark) × Behind role room opens rest
behind_more role_.Name room opens = let c = colon_more room opens in (Seen (Byte 58) ∷ c.0, c.1)
behind_more role_.Value room opens = closes room opens

-- a character of several bytes goes on from each of its bytes
tail_more : (role : Role) (tail : Tail) (kept : Kept) → Alive (mode_.Text role (place_.Tail tail)) kept
tail_more role tail_.One kept = let c = behind_more role kept.room kept.opens in
    record { symbol = Byte 128; rest = _; follows = (128 ∷ [], [], c.0, (refl, tt), tt, refl, c.1) }
tail_more role tail_.Two kept = let c = behind_more role kept.room kept.opens in
    record { symbol = Byte 128; rest = _; follows = (128 ∷ 128 ∷ [], [], c.0, (refl, (refl, tt)), tt, refl, c.1) }
tail_more role tail_.Three kept = let c = behind_more role kept.room kept.opens in
    record { symbol = Byte 128; rest = _; follows = (128 ∷ 128 ∷ 128 ∷ [], [], c.0, (refl, (refl, (refl, tt))), tt, refl, c.1) }
tail_more role tail_.BehindE0 kept = let c = behind_more role kept.room kept.opens in
    record { symbol = Byte 160; rest = _; follows = (160 ∷ 128 ∷ [], [], c.0, (refl, (refl, tt)), tt, refl, c.1) }
tail_more role tail_.BehindEd kept = let c = behind_more role kept.room kept.opens in
    record { symbol = Byte 128; rest = _; follows = (128 ∷ 128 ∷ [], [], c.0, (refl, (refl, tt)), tt, refl, c.1) }
tail_more role tail_.BehindF0 kept = let c = behind_more role kept.room kept.opens in
    record { symbol = Byte 144; rest = _; follows = (144 ∷ 128 ∷ 128 ∷ [], [], c.0, (refl, (refl, (refl, tt))), tt, refl, c.1) }
tail_more role tail_.BehindF4 kept = let c = behind_more role kept.room kept.opens in
    record { symbol = Byte 128; rest = _; follows = (128 ∷ 128 ∷ 128 ∷ [], [], c.0, (refl, (refl, (refl, tt))), tt, refl, c.1) }

-- a text goes on from each place between its quotation marks
place_more : (role : Role) (place : Place) (kept : Kept) → Alive (mode_.Text role place) kept
place_more role (place_.Chars w) kept = let c = behind_more role kept.room kept.opens in
    record { symbol = Byte 34; rest = _; follows = ([], c.0, tt, refl, c.1) }
place_more role (place_.Escape w) kept = let c = behind_more role kept.room kept.opens in
    record { symbol = Byte 34; rest = _; follows = inl (34, 34, ([], c.0, refl, tt, refl, c.1)) }
place_more role (place_.Hex1 w) kept = let c = behind_more role kept.room kept.opens in
    record { symbol = Byte 48; rest = _; follows = (48, 48, 48, 48, ([], c.0, (refl, (refl, (refl, (refl, tt)))), tt, refl, c.1)) }
place_more role (place_.Hex2 w x) kept = let c = behind_more role kept.room kept.opens in
    record { symbol = Byte 48; rest = _; follows = (48, 48, 48, ([], c.0, (refl, (refl, (refl, tt))), tt, refl, c.1)) }
place_more role (place_.Hex3 w x y) kept = let c = behind_more role kept.room kept.opens in
    record { symbol = Byte 48; rest = _; follows = (48, 48, ([], c.0, (refl, (refl, tt)), tt, refl, c.1)) }
place_more role (place_.Hex4 w x y z) kept = let c = behind_more role kept.room kept.opens in
    record { symbol = Byte 48; rest = _; follows = (48, ([], c.0, (refl, tt), tt, refl, c.1)) }
place_more role (place_.Tail tail) kept = tail_more role tail kept

-- something may follow a bracket that opened
first_more : (room : ℕ) (opens : List Bracket) (content : List ℕ) → Alive mode_.First (keeping room opens content)
first_more room [] content = let v = value_more room [] in record { symbol = Byte 110; rest = v.0; follows = v.1 }
first_more room (bracket ∷ opens) content = let c = closes (suc room) opens in
    record { symbol = Byte (closing bracket); rest = _; follows = (Empty [], c.0, tt, refl, c.1) }

-- something may follow a value
after_more : (room : ℕ) (opens : List Bracket) (content : List ℕ) → Alive mode_.After (keeping room opens content)
after_more room [] content = record { symbol = End; rest = []; follows = ([], tt, refl) }
after_more room (bracket ∷ opens) content = let c = closes (suc room) opens in
    record { symbol = Byte (closing bracket); rest = _; follows = (Last [], c.0, tt, refl, c.1) }

-- each place is alive
pub alive : (mode : Mode) (kept : Kept) → Alive mode kept
alive mode_.Value kept = let v = value_more kept.room kept.opens in record { symbol = Byte 110; rest = v.0; follows = v.1 }
alive mode_.First kept = first_more kept.room kept.opens kept.content
alive mode_.After kept = after_more kept.room kept.opens kept.content
alive mode_.Name kept = let c = colon_more kept.room kept.opens in
    record { symbol = Byte 34; rest = _; follows = ([], [], Seen (Byte 58) ∷ c.0, tt, tt, refl, c.1) }
alive mode_.Colon kept = let c = colon_more kept.room kept.opens in record { symbol = Byte 58; rest = c.0; follows = c.1 }
alive (mode_.Word letters) kept = word_more letters kept
alive (mode_.Number part) kept = number_more part kept
alive (mode_.Text role place) kept = place_more role place kept
