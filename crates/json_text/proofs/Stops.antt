-- A step that is given before its symbol is read is that of a number that ends there.
use Rattle.std.proofs.Common.{◌≡◌, ℕ, zero, suc, inl, inr, true, cond, eqb, List, [], ◌∷◌, ◌++◌, refl, sym, ◌∙◌, ap, subst, Option, Some, None}
use Rattle.json_text.specs.declared.mode.Bracket.{Bracket}
use Rattle.json_text.specs.declared.mode.Bracket.TheVariants as bracket_
use Rattle.json_text.specs.declared.mode.Kind.TheVariants as kind_
use Rattle.json_text.specs.declared.mode.Part.{Part}
use Rattle.json_text.specs.declared.mode.Part.TheVariants as part_
use Rattle.json_text.specs.declared.mode.Letters.{Letters}
use Rattle.json_text.specs.declared.mode.Tail.{Tail}
use Rattle.json_text.specs.declared.mode.Lead.{Lead}
use Rattle.json_text.specs.declared.mode.Lead.TheVariants as lead_
use Rattle.json_text.specs.declared.mode.Escape.{Escape}
use Rattle.json_text.specs.declared.mode.Escape.TheVariants as escape_
use Rattle.json_text.specs.declared.mode.Start.{Start}
use Rattle.json_text.specs.declared.mode.Start.TheVariants as start_
use Rattle.json_text.specs.declared.mode.Role.{Role}
use Rattle.json_text.specs.declared.mode.Role.TheVariants as role_
use Rattle.json_text.specs.declared.mode.Place.{Place}
use Rattle.json_text.specs.declared.mode.Place.TheVariants as place_
use Rattle.json_text.specs.declared.mode.Mode.{Mode}
use Rattle.json_text.specs.declared.mode.Mode.TheVariants as mode_
use Rattle.json_text.specs.Marks.{Symbol, Byte, End, Step, Mark, Seen}
use Rattle.json_text.specs.Bytes.{is_space, kind_of, is_hex, lead_of, escape_of}
use Rattle.json_text.specs.Grammar.{closing}
use Rattle.json_text.specs.Rest.{Kept, keeping, holding, After, part_after, may_end}
use Rattle.json_text.specs.Machine.{Move, Reads, Gives, GivesFirst, Finishes, Stuck, letter_after, letters_after, fits_tail, tail_after, start_of, start_move, open_move, name_move, entry_move, end_move, move_by, number_move, word_move, byte_move, tail_move, lead_move, escape_move, text_move, last_move, finish_move, after_move, first_move}
use Rattle.json_text.proofs.ByteTests.{eq_of, by_cond, space_kind}
use Rattle.json_text.proofs.Goes.{Goes, sides, out_stuck}
use Rattle.json_text.proofs.Forth.{forth}

-- what is read behind a value is nothing of a number
closing_kind : (bracket : Bracket) (b : ℕ) → b ≡ closing bracket → kind_of b ≡ kind_.Other
closing_kind bracket_.Square b e = subst (λ x. kind_of x ≡ kind_.Other) (sym e) refl
closing_kind bracket_.Curly b e = subst (λ x. kind_of x ≡ kind_.Other) (sym e) refl

-- so is each byte that is read behind a value
after_kind : (room : ℕ) (opens : List Bracket) (content : List ℕ) (b : ℕ) (marks : List Mark)
    → Goes (byte_move mode_.After (keeping room opens content) b) marks → kind_of b ≡ kind_.Other
after_kind room [] content b marks g = elim (sides (is_space b) _ _ marks g) [
  | inl f ↦ space_kind b f.0
  | inr f ↦ absurd (out_stuck f.1)
]
after_kind room (bracket ∷ opens) content b marks g = elim (sides (is_space b) _ _ marks g) [
  | inl f ↦ space_kind b f.0
  | inr f ↦ elim (sides (eqb b (closing bracket)) _ _ marks f.1) [
    | inl k ↦ closing_kind bracket b (eq_of b (closing bracket) k.0)
    | inr k ↦ elim (sides (eqb b 44) _ _ marks k.1) [
      | inl l ↦ subst (λ x. kind_of x ≡ kind_.Other) (sym (eq_of b 44 l.0)) refl
      | inr l ↦ absurd (out_stuck l.1)
    ]
  ]
]

-- no part of a number goes on with such a byte
part_none : (part : Part) → part_after part kind_.Other ≡ None
part_none part_.Nothing = refl
part_none part_.Minus = refl
part_none part_.Zero = refl
part_none part_.Whole = refl
part_none part_.Point = refl
part_none part_.Fraction = refl
part_none part_.Letter = refl
part_none part_.Sign = refl
part_none part_.Exponent = refl

-- a part that may end gives the number
pub may_end_gives : (part : Part) (kept : Kept) → may_end part ≡ true
    → end_move part kept ≡ GivesFirst (Step.Number kept.content) mode_.After (holding kept [])
may_end_gives part kept m =
    subst (λ t. cond t (GivesFirst (Step.Number kept.content) mode_.After (holding kept [])) Stuck ≡
    GivesFirst (Step.Number kept.content) mode_.After (holding kept [])) (sym m) refl

-- where a value may end, a number that may end does
pub number_stops : (part : Part) (kept : Kept) (x : Symbol) (marks : List Mark)
    → may_end part ≡ true → After kept.room kept.opens (Seen x ∷ marks)
    → move_by (mode_.Number part) kept x ≡ GivesFirst (Step.Number kept.content) mode_.After (holding kept [])
number_stops part kept End marks m a = may_end_gives part kept m
number_stops part kept (Byte b) marks m a =
    let k : kind_of b ≡ kind_.Other = after_kind kept.room kept.opens kept.content b marks
    (forth mode_.After kept (Seen (Byte b) ∷ marks) a) in
    subst (λ o. number_move part o kept b ≡ GivesFirst (Step.Number kept.content) mode_.After (holding kept []))
    (sym (ap (λ x. part_after part x) k ∙ part_none part)) (may_end_gives part kept m)

-- a number that may end is never stuck
pub number_free : (part : Part) (kept : Kept) (x : Symbol)
    → may_end part ≡ true → move_by (mode_.Number part) kept x ≡ Stuck → ⊥
number_free part kept End m e = let f = may_end_gives part kept m in cc
number_free part kept (Byte b) m e = free_by (part_after part (kind_of b)) e
  where
    free_by : (next : Option Part) → number_move part next kept b ≡ Stuck → ⊥
    free_by None s = let f = may_end_gives part kept m in cc
    free_by (Some next) s = cc

-- what a move that gives a step first says
pub record Ended (mode : Mode) (kept : Kept) (step : Step) (to : Mode) (kept_to : Kept) : Type 0 where
  pub part : Part
  pub is_number : mode ≡ mode_.Number part
  pub ends : may_end part ≡ true
  pub step_is : step ≡ Step.Number kept.content
  pub mode_is : to ≡ mode_.After
  pub kept_is : kept_to ≡ holding kept []

-- no number is read
abbrev pub NoNumber : Mode → Type 0
NoNumber (mode_.Number part) = ⊥
NoNumber _ = Unit {0}

-- what is known of a move: behind a step no number is read, and a step that comes first is that of a number
abbrev pub FirstSays : Mode → Kept → Move → Type 0
FirstSays mode kept (Gives step to kept_to) = NoNumber to
FirstSays mode kept (GivesFirst step to kept_to) = Ended mode kept step to kept_to
FirstSays mode kept _ = Unit {0}

-- no other move gives a step first
abbrev pub NeverFirst : Move → Type 0
NeverFirst (Gives step to kept_to) = NoNumber to
NeverFirst (GivesFirst step to kept_to) = ⊥
NeverFirst Finishes = ⊥
NeverFirst _ = Unit {0}

-- a byte finishes nothing
abbrev pub ByteSays : Mode → Kept → Move → Type 0
ByteSays mode kept (Gives step to kept_to) = NoNumber to
ByteSays mode kept (GivesFirst step to kept_to) = Ended mode kept step to kept_to
ByteSays mode kept Finishes = ⊥
ByteSays mode kept _ = Unit {0}

-- of any other move nothing has to be known
never_says : (mode : Mode) (kept : Kept) (move : Move) → NeverFirst move → ByteSays mode kept move
never_says mode kept (Reads m k) n = tt
never_says mode kept (Gives s m k) n = n
never_says mode kept (GivesFirst s m k) n = absurd n
never_says mode kept Finishes n = absurd n
never_says mode kept Stuck n = tt

-- a bracket that opens gives no step first
open_never : (bracket : Bracket) (room : ℕ) (opens : List Bracket) (content : List ℕ) → NeverFirst (open_move bracket room opens content)
open_never bracket zero opens content = tt
open_never bracket (suc room) opens content = tt

-- nor does the beginning of a value
start_never : (start : Start) (kept : Kept) (b : ℕ) → NeverFirst (start_move start kept b)
start_never start_.Quote kept b = tt
start_never (start_.Open bracket) kept b = open_never bracket kept.room kept.opens kept.content
start_never (start_.Word letters) kept b = tt
start_never (start_.Number part) kept b = tt
start_never start_.Nothing kept b = tt

-- nor does the beginning of a name
name_never : (kept : Kept) (b : ℕ) → NeverFirst (name_move kept b)
name_never kept b = by_cond NeverFirst (eqb b 34) _ _ (λ e. tt) (λ e. tt)

-- nor does the beginning of an entry
entry_never : (bracket : Bracket) (kept : Kept) (b : ℕ) → NeverFirst (entry_move bracket kept b)
entry_never bracket_.Square kept b = start_never (start_of b) kept b
entry_never bracket_.Curly kept b = name_never kept b

-- nor does anything behind a bracket that opened
first_never : (room : ℕ) (opens : List Bracket) (content : List ℕ) (b : ℕ) → NeverFirst (first_move room opens content b)
first_never room [] content b = start_never (start_of b) (keeping room [] content) b
first_never room (bracket ∷ opens) content b =
    by_cond NeverFirst (eqb b (closing bracket)) _ _ (λ e. tt) (λ e. entry_never bracket (keeping room (bracket ∷ opens) content) b)

-- nor does anything behind a value
after_never : (room : ℕ) (opens : List Bracket) (content : List ℕ) (b : ℕ) → NeverFirst (after_move room opens content b)
after_never room [] content b = tt
after_never room (bracket ∷ opens) content b =
    by_cond NeverFirst (eqb b (closing bracket)) _ _ (λ e. tt) (λ e. by_cond NeverFirst (eqb b 44) _ _ (λ f. tt) (λ f. tt))

-- nor does a letter of a word
word_never : (letters : Letters) (next : Option Letters) (kept : Kept) → NeverFirst (word_move letters next kept)
word_never letters None kept = tt
word_never letters (Some next) kept = tt

-- nor does the beginning of a character
lead_never : (role : Role) (w : Option ℕ) (lead : Lead) (kept : Kept) (b : ℕ) → NeverFirst (lead_move role w lead kept b)
lead_never role_.Name w lead_.Quote kept b = tt
lead_never role_.Value w lead_.Quote kept b = tt
lead_never role w lead_.Backslash kept b = tt
lead_never role w lead_.Whole kept b = tt
lead_never role w (lead_.Longer tail) kept b = tt
lead_never role w lead_.Nothing kept b = tt

-- nor does a letter behind a backslash
escape_never : (role : Role) (w : Option ℕ) (escape : Escape) (kept : Kept) → NeverFirst (escape_move role w escape kept)
escape_never role w (escape_.Short b) kept = tt
escape_never role w escape_.Coded kept = tt
escape_never role w escape_.Nothing kept = tt

-- nor does a byte of a character
tail_never : (role : Role) (next : Option Tail) (kept : Kept) → NeverFirst (tail_move role next kept)
tail_never role None kept = tt
tail_never role (Some tail) kept = tt

-- nor does anything between quotation marks
text_never : (role : Role) (place : Place) (kept : Kept) (b : ℕ) → NeverFirst (text_move role place kept b)
text_never role (place_.Chars w) kept b = lead_never role w (lead_of b) kept b
text_never role (place_.Escape w) kept b = escape_never role w (escape_of b) kept
text_never role (place_.Hex1 w) kept b = by_cond NeverFirst (is_hex b) _ _ (λ e. tt) (λ e. tt)
text_never role (place_.Hex2 w x) kept b = by_cond NeverFirst (is_hex b) _ _ (λ e. tt) (λ e. tt)
text_never role (place_.Hex3 w x y) kept b = by_cond NeverFirst (is_hex b) _ _ (λ e. tt) (λ e. tt)
text_never role (place_.Hex4 w x y z) kept b = by_cond NeverFirst (is_hex b) _ _ (λ e. tt) (λ e. tt)
text_never role (place_.Tail tail) kept b =
    by_cond NeverFirst (fits_tail tail b) _ _ (λ e. tail_never role (tail_after tail) (holding kept (kept.content ++ (b ∷ [])))) (λ e. tt)

-- where a number ends, it may end
end_says_byte : (part : Part) (kept : Kept) → ByteSays (mode_.Number part) kept (end_move part kept)
end_says_byte part kept = by_cond (ByteSays (mode_.Number part) kept) (may_end part) _ _
    (λ e. record { part = part; is_number = refl; ends = e; step_is = refl; mode_is = refl; kept_is = refl })
    (λ e. tt)

-- the same for the end of the text
end_says : (part : Part) (kept : Kept) → FirstSays (mode_.Number part) kept (end_move part kept)
end_says part kept = by_cond (FirstSays (mode_.Number part) kept) (may_end part) _ _
    (λ e. record { part = part; is_number = refl; ends = e; step_is = refl; mode_is = refl; kept_is = refl })
    (λ e. tt)

-- in a number a step is given first only where it may end
number_says : (part : Part) (next : Option Part) (kept : Kept) (b : ℕ)
    → ByteSays (mode_.Number part) kept (number_move part next kept b)
number_says part (Some next) kept b = tt
number_says part None kept b = end_says_byte part kept

-- a byte at any place
pub byte_says : (mode : Mode) (kept : Kept) (b : ℕ) → ByteSays mode kept (byte_move mode kept b)
byte_says mode_.Value kept b = never_says _ _ _ (by_cond NeverFirst (is_space b) _ _ (λ e. tt) (λ e. start_never (start_of b) kept b))
byte_says mode_.First kept b = never_says _ _ _
    (by_cond NeverFirst (is_space b) _ _ (λ e. tt) (λ e. first_never kept.room kept.opens kept.content b))
byte_says mode_.After kept b = never_says _ _ _
    (by_cond NeverFirst (is_space b) _ _ (λ e. tt) (λ e. after_never kept.room kept.opens kept.content b))
byte_says mode_.Name kept b = never_says _ _ _ (by_cond NeverFirst (is_space b) _ _ (λ e. tt) (λ e. name_never kept b))
byte_says mode_.Colon kept b = never_says _ _ _
    (by_cond NeverFirst (is_space b) _ _ (λ e. tt) (λ e. by_cond NeverFirst (eqb b 58) _ _ (λ f. tt) (λ f. tt)))
byte_says (mode_.Word letters) kept b =
    never_says _ _ _ (by_cond NeverFirst (eqb b (letter_after letters)) _ _ (λ e. word_never letters (letters_after letters) kept)
    (λ e. tt))
byte_says (mode_.Number part) kept b = number_says part (part_after part (kind_of b)) kept b
byte_says (mode_.Text role place) kept b = never_says _ _ _ (text_never role place kept b)

-- the end behind a value
finish_says : (kept : Kept) (opens : List Bracket) → FirstSays mode_.After kept (finish_move opens)
finish_says kept [] = tt
finish_says kept (bracket ∷ opens) = tt

-- the end at any place
last_says : (mode : Mode) (kept : Kept) → FirstSays mode kept (last_move mode kept)
last_says mode_.After kept = finish_says kept kept.opens
last_says (mode_.Number part) kept = end_says part kept
last_says _ kept = tt

-- what is known by a byte is known by a symbol
byte_first : (mode : Mode) (kept : Kept) (move : Move) → ByteSays mode kept move → FirstSays mode kept move
byte_first mode kept (Reads m k) s = tt
byte_first mode kept (Gives x m k) s = s
byte_first mode kept (GivesFirst x m k) s = s
byte_first mode kept Finishes s = tt
byte_first mode kept Stuck s = tt

-- a symbol at any place
pub first_says : (mode : Mode) (kept : Kept) (x : Symbol) → FirstSays mode kept (move_by mode kept x)
first_says mode kept (Byte b) = byte_first mode kept (byte_move mode kept b) (byte_says mode kept b)
first_says mode kept End = last_says mode kept
