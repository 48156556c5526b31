-- What may follow at a place goes where the move by its first symbol leads.
use Rattle.std.proofs.Common.{◌≡◌, ℕ, zero, suc, false, eqb, List, [], ◌∷◌, ◌++◌, refl, sym, ap, subst, append_assoc, Option, Some, None}
use mathlib.Core.Bool.{false≢true}
use Rattle.json_text.specs.declared.mode.Bracket.{Bracket}
use Rattle.json_text.specs.declared.mode.Bracket.TheVariants as bracket_
use Rattle.json_text.specs.declared.mode.Part.{Part}
use Rattle.json_text.specs.declared.mode.Part.TheVariants as part_
use Rattle.json_text.specs.declared.mode.Letters.{Letters}
use Rattle.json_text.specs.declared.mode.Letters.TheVariants as letters_
use Rattle.json_text.specs.declared.mode.Role.TheVariants as role_
use Rattle.json_text.specs.declared.mode.Mode.{Mode}
use Rattle.json_text.specs.declared.mode.Mode.TheVariants as mode_
use Rattle.json_text.specs.Marks.{Byte, End, Yes, No, Null, Step, Mark, Seen, Given, see}
use Rattle.json_text.specs.Bytes.{AreAll, is_space, kind_of}
use Rattle.json_text.specs.Chars.{Char, AreChars, print_text}
use Rattle.json_text.specs.Grammar.{NoName, Named, Value, Word, Number, Text, Group, Entries, Empty, Entry, Others, Last, Next, print_value, print_entries, print_others, IsValue, AreEntries, AreOthers}
use Rattle.json_text.specs.Rest.{Kept, keeping, After, BeforeValue, BeforeColon, BeforeFirst, word_of, letters_left, part_after, OnPart, Completes, Rest}
use Rattle.json_text.specs.Machine.{start_of, start_move, number_move}
use Rattle.json_text.proofs.ByteTests.{begins_number}
use Rattle.json_text.proofs.NumberLemmas.{number_goes}
use Rattle.json_text.proofs.Goes.{Goes, reads, gives, finishes, Follows, if_true, if_false}
use Rattle.json_text.proofs.Lists.{append_nil}
use Rattle.json_text.proofs.ForthTexts.{at_place}

-- behind a value, at the end of the text
after_end : (room : ℕ) (content space : List ℕ) → AreAll is_space space →
    Follows mode_.After (keeping room [] content) (see space (Seen End ∷ []))
after_end room content [] h = finishes
after_end room content (b ∷ space) h = if_true _ h.0 (reads (space, h.1, refl))

-- what stands behind the name of a member: a colon and a value, and then other members
abbrev pub behind_name : List ℕ → List ℕ → Value → Others → List Mark → List Mark
behind_name c d value others rest = see c (Seen (Byte 58) ∷ see d (print_value value (print_others others bracket_.Curly rest)))

-- so it may follow the name
named_value : (kept : Kept) (c d : List ℕ) (value : Value) (others : Others) (rest : List Mark) → AreAll is_space c → AreAll is_space d
    → IsValue value kept.room → After kept.room kept.opens (print_others others bracket_.Curly rest)
    → BeforeColon kept.room kept.opens (behind_name c d value others rest)
named_value kept c d value others rest hc hd v a = (
  c,
  see d (print_value value (print_others others bracket_.Curly rest)),
  hc,
  refl,
  (d, value, print_others others bracket_.Curly rest, hd, v, refl, a),
)

-- behind an entry
after_entry : (bracket : Bracket) (kept : Kept) (others : Others) (rest : List Mark)
    → AreOthers others bracket kept.room → After (suc kept.room) kept.opens rest →
    Follows mode_.After (keeping kept.room (bracket ∷ kept.opens) kept.content) (print_others others bracket rest)
after_entry bracket_.Square kept (Last []) rest h a = gives a
after_entry bracket_.Curly kept (Last []) rest h a = gives a
after_entry bracket kept (Last (b ∷ space)) rest h a = if_true _ h.0 (reads (Last space, rest, h.1, refl, a))
after_entry bracket_.Square kept (Next [] behind NoName value others) rest h a =
    reads (behind, value, print_others others bracket_.Square rest, h.1, h.3, refl, (others, rest, h.4, refl, a))
after_entry bracket_.Square kept (Next [] behind (Named chars c d) value others) rest h a = absurd h.2
after_entry bracket_.Curly kept (Next [] behind NoName value others) rest h a = absurd h.2
after_entry bracket_.Curly kept (Next [] behind (Named chars c d) value others) rest h a =
    reads (
      behind,
      chars,
      behind_name c d value others rest,
      h.1,
      h.2.0,
      refl,
      named_value (keeping kept.room (bracket_.Curly ∷ kept.opens) kept.content) c d value others rest h.2.1 h.2.2 h.3 (
        others,
        rest,
        h.4,
        refl,
        a,
      ),
    )
after_entry bracket kept (Next (b ∷ space) behind name value others) rest h a =
    if_true _ h.0.0 (reads (Next space behind name value others, rest, (h.0.1, h.1, h.2, h.3, h.4), refl, a))

-- a value begins with a byte that is no space and closes no array
record Starts (kept : Kept) (marks : List Mark) : Type 0 where
  byte : ℕ
  others : List Mark
  printed : marks ≡ Seen (Byte byte) ∷ others
  no_space : is_space byte ≡ false
  no_close : eqb byte 93 ≡ false
  goes : Goes (start_move (start_of byte) kept byte) others

-- a number begins with its first byte
number_starts : (kept : Kept) (b : ℕ) (bytes : List ℕ) (rest : List Mark) (next : Option Part)
    → part_after part_.Nothing (kind_of b) ≡ next → OnPart next (Completes bytes) → After kept.room kept.opens rest
    → Starts kept (see (b ∷ bytes) (Given (Step.Number (b ∷ bytes)) ∷ rest))
number_starts kept b bytes rest None e c a = absurd c
number_starts kept b bytes rest (Some part) e c a =
    let begins = begins_number b part e in
    record {
      byte = b;
      others = see bytes (Given (Step.Number (b ∷ bytes)) ∷ rest);
      printed = refl;
      no_space = begins.1;
      no_close = begins.2;
      goes = subst (λ s. Goes (start_move s kept b) (see bytes (Given (Step.Number (b ∷ bytes)) ∷ rest))) (sym begins.0)
          (reads (bytes, rest, c, refl, a));
    }

-- so do the bytes of a number
digits_start : (kept : Kept) (bytes : List ℕ) (rest : List Mark)
    → Completes bytes part_.Nothing → After kept.room kept.opens rest → Starts kept (see bytes (Given (Step.Number bytes) ∷ rest))
digits_start kept [] rest c a = absurd (false≢true c)
digits_start kept (b ∷ bytes) rest c a = number_starts kept b bytes rest _ refl c a

-- each value begins so
starts : (value : Value) (room : ℕ) (opens : List Bracket) (content : List ℕ) (rest : List Mark)
    → IsValue value room → After room opens rest → Starts (keeping room opens content) (print_value value rest)
starts (Word Yes) room opens content rest v a =
    record { byte = 116; others = _; printed = refl; no_space = refl; no_close = refl; goes = reads (rest, refl, a) }
starts (Word No) room opens content rest v a =
    record { byte = 102; others = _; printed = refl; no_space = refl; no_close = refl; goes = reads (rest, refl, a) }
starts (Word Null) room opens content rest v a =
    record { byte = 110; others = _; printed = refl; no_space = refl; no_close = refl; goes = reads (rest, refl, a) }
starts (Number bytes) room opens content rest v a = digits_start (keeping room opens content) bytes rest (number_goes bytes v) a
starts (Text chars) room opens content rest v a =
    record { byte = 34; others = _; printed = refl; no_space = refl; no_close = refl; goes = reads (chars, rest, v, refl, a) }
starts (Group bracket entries) zero opens content rest v a = absurd v
starts (Group bracket_.Square entries) (suc room) opens content rest v a =
    record { byte = 91; others = _; printed = refl; no_space = refl; no_close = refl; goes = gives (entries, rest, v, refl, a) }
starts (Group bracket_.Curly entries) (suc room) opens content rest v a =
    record { byte = 123; others = _; printed = refl; no_space = refl; no_close = refl; goes = gives (entries, rest, v, refl, a) }

-- before a value
at_value : (kept : Kept) (space : List ℕ) (value : Value) (rest : List Mark)
    → AreAll is_space space → IsValue value kept.room → After kept.room kept.opens rest →
    Follows mode_.Value kept (see space (print_value value rest))
at_value kept [] value rest h v a =
    let s = starts value kept.room kept.opens kept.content rest v a in
    subst (λ m. Follows mode_.Value kept m) (sym s.printed) (if_false _ s.no_space s.goes)
at_value kept (b ∷ space) value rest h v a = if_true _ h.0 (reads (space, value, rest, h.1, v, refl, a))

-- behind a bracket that opened, where none is open
at_lone_first : (room : ℕ) (content space : List ℕ) (value : Value) (rest : List Mark)
    → AreAll is_space space → IsValue value room → After room [] rest →
    Follows mode_.First (keeping room [] content) (see space (print_value value rest))
at_lone_first room content [] value rest h v a =
    let s = starts value room [] content rest v a in
    subst (λ m. Follows mode_.First (keeping room [] content) m) (sym s.printed) (if_false _ s.no_space s.goes)
at_lone_first room content (b ∷ space) value rest h v a = if_true _ h.0 (reads (space, value, rest, h.1, v, refl, a))

-- behind a bracket that opened
at_first : (bracket : Bracket) (kept : Kept) (entries : Entries) (rest : List Mark)
    → AreEntries entries bracket kept.room → After (suc kept.room) kept.opens rest →
    Follows mode_.First (keeping kept.room (bracket ∷ kept.opens) kept.content) (print_entries entries bracket rest)
at_first bracket_.Square kept (Empty []) rest h a = gives a
at_first bracket_.Curly kept (Empty []) rest h a = gives a
at_first bracket kept (Empty (b ∷ space)) rest h a = if_true _ h.0 (reads (Empty space, rest, h.1, refl, a))
at_first bracket_.Square kept (Entry [] NoName value others) rest h a =
    let s = starts value kept.room (bracket_.Square ∷ kept.opens) kept.content (print_others others bracket_.Square rest) h.2 (
      others,
      rest,
      h.3,
      refl,
      a,
    ) in
    subst (λ m. Follows mode_.First (keeping kept.room (bracket_.Square ∷ kept.opens) kept.content) m) (sym s.printed)
    (if_false _ s.no_space (if_false _ s.no_close s.goes))
at_first bracket_.Square kept (Entry [] (Named chars c d) value others) rest h a = absurd h.1
at_first bracket_.Curly kept (Entry [] NoName value others) rest h a = absurd h.1
at_first bracket_.Curly kept (Entry [] (Named chars c d) value others) rest h a =
    reads (
      chars,
      behind_name c d value others rest,
      h.1.0,
      refl,
      named_value (keeping kept.room (bracket_.Curly ∷ kept.opens) kept.content) c d value others rest h.1.1 h.1.2 h.2 (
        others,
        rest,
        h.3,
        refl,
        a,
      ),
    )
at_first bracket kept (Entry (b ∷ space) name value others) rest h a =
    if_true _ h.0.0 (reads (Entry space name value others, rest, (h.0.1, h.1, h.2, h.3), refl, a))

-- before the name of a member
at_name : (kept : Kept) (space : List ℕ) (chars : List Char) (rest : List Mark)
    → AreAll is_space space → AreChars chars → BeforeColon kept.room kept.opens rest →
    Follows mode_.Name kept (see space (print_text role_.Name chars rest))
at_name kept [] chars rest h c b = reads (chars, rest, c, refl, b)
at_name kept (x ∷ space) chars rest h c b = if_true _ h.0 (reads (space, chars, rest, h.1, c, refl, b))

-- behind it
at_colon : (kept : Kept) (space : List ℕ) (rest : List Mark)
    → AreAll is_space space → BeforeValue kept.room kept.opens rest → Follows mode_.Colon kept (see space (Seen (Byte 58) ∷ rest))
at_colon kept [] rest h b = reads b
at_colon kept (x ∷ space) rest h b = if_true _ h.0 (reads (space, rest, h.1, refl, b))

-- in a word
at_word : (letters : Letters) (kept : Kept) (rest : List Mark) → After kept.room kept.opens rest
    → Follows (mode_.Word letters) kept (see (letters_left letters) (Given (Step.Word (word_of letters)) ∷ rest))
at_word letters_.T kept rest a = reads (rest, refl, a)
at_word letters_.Tr kept rest a = reads (rest, refl, a)
at_word letters_.Tru kept rest a = gives a
at_word letters_.F kept rest a = reads (rest, refl, a)
at_word letters_.Fa kept rest a = reads (rest, refl, a)
at_word letters_.Fal kept rest a = reads (rest, refl, a)
at_word letters_.Fals kept rest a = gives a
at_word letters_.N kept rest a = reads (rest, refl, a)
at_word letters_.Nu kept rest a = reads (rest, refl, a)
at_word letters_.Nul kept rest a = gives a

-- a byte more of a number
at_digit : (part : Part) (next : Option Part) (kept : Kept) (b : ℕ) (bytes : List ℕ) (rest : List Mark)
    → OnPart next (Completes bytes) → After kept.room kept.opens rest
    → Goes (number_move part next kept b) (see bytes (Given (Step.Number (kept.content ++ (b ∷ bytes))) ∷ rest))
at_digit part None kept b bytes rest c a = absurd c
at_digit part (Some next) kept b bytes rest c a =
    reads (bytes, rest, c, ap (λ x. see bytes (Given (Step.Number x) ∷ rest)) (sym (append_assoc kept.content (b ∷ []) bytes)), a)

-- the bytes of a number
at_number : (part : Part) (kept : Kept) (bytes : List ℕ) (rest : List Mark)
    → Completes bytes part → After kept.room kept.opens rest
    → Follows (mode_.Number part) kept (see bytes (Given (Step.Number (kept.content ++ bytes)) ∷ rest))
at_number part kept [] rest c a = (c, ap Step.Number (append_nil kept.content), a)
at_number part kept (b ∷ bytes) rest c a = at_digit part (part_after part (kind_of b)) kept b bytes rest c a

-- behind a bracket that opened, or where none did
forth_first : (room : ℕ) (opens : List Bracket) (content : List ℕ) (marks : List Mark)
    → BeforeFirst room opens marks → Follows mode_.First (keeping room opens content) marks
forth_first room [] content marks (space, value, rest, h, v, p, a) =
    subst (λ m. Follows mode_.First (keeping room [] content) m) (sym p) (at_lone_first room content space value rest h v a)
forth_first room (bracket ∷ opens) content marks (entries, rest, h, p, a) =
    subst (λ m. Follows mode_.First (keeping room (bracket ∷ opens) content) m) (sym p)
    (at_first bracket (keeping room opens content) entries rest h a)

-- behind a value
forth_after : (room : ℕ) (opens : List Bracket) (content : List ℕ) (marks : List Mark)
    → After room opens marks → Follows mode_.After (keeping room opens content) marks
forth_after room [] content marks (space, h, p) =
    subst (λ m. Follows mode_.After (keeping room [] content) m) (sym p) (after_end room content space h)
forth_after room (bracket ∷ opens) content marks (others, rest, h, p, a) =
    subst (λ m. Follows mode_.After (keeping room (bracket ∷ opens) content) m) (sym p)
    (after_entry bracket (keeping room opens content) others rest h a)

-- at any place
pub forth : (mode : Mode) (kept : Kept) (marks : List Mark) → Rest mode kept marks → Follows mode kept marks
forth mode_.Value kept marks (space, value, rest, h, v, p, a) =
    subst (λ m. Follows mode_.Value kept m) (sym p) (at_value kept space value rest h v a)
forth mode_.First kept marks r = forth_first kept.room kept.opens kept.content marks r
forth mode_.After kept marks r = forth_after kept.room kept.opens kept.content marks r
forth mode_.Name kept marks (space, chars, rest, h, c, p, b) =
    subst (λ m. Follows mode_.Name kept m) (sym p) (at_name kept space chars rest h c b)
forth mode_.Colon kept marks (space, rest, h, p, b) =
    subst (λ m. Follows mode_.Colon kept m) (sym p) (at_colon kept space rest h b)
forth (mode_.Word letters) kept marks (rest, p, a) =
    subst (λ m. Follows (mode_.Word letters) kept m) (sym p) (at_word letters kept rest a)
forth (mode_.Number part) kept marks (bytes, rest, c, p, a) =
    subst (λ m. Follows (mode_.Number part) kept m) (sym p) (at_number part kept bytes rest c a)
forth (mode_.Text role place) kept marks h = at_place role place kept marks h
