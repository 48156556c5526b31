-- At a value, where a move leads to what may follow, what may follow begins with the move's symbol.
use Rattle.std.proofs.Common.{◌≡◌, ℕ, zero, suc, inl, inr, true, eqb, List, [], ◌∷◌, ◌++◌, refl, sym, ◌∙◌, ap, subst, append_assoc, Option, Some, None}
use Rattle.json_text.specs.declared.mode.Bracket.{Bracket}
use Rattle.json_text.specs.declared.mode.Part.{Part}
use Rattle.json_text.specs.declared.mode.Part.TheVariants as part_
use Rattle.json_text.specs.declared.mode.Letters.{Letters}
use Rattle.json_text.specs.declared.mode.Letters.TheVariants as letters_
use Rattle.json_text.specs.declared.mode.Start.{Start}
use Rattle.json_text.specs.declared.mode.Start.TheVariants as start_
use Rattle.json_text.specs.declared.mode.Role.TheVariants as role_
use Rattle.json_text.specs.declared.mode.Mode.TheVariants as mode_
use Rattle.json_text.specs.Marks.{Byte, Step, Mark, Seen, Given, see}
use Rattle.json_text.specs.Bytes.{is_space, kind_of}
use Rattle.json_text.specs.Grammar.{Value, Word, Number, Text, Group, letters_of, opening, print_value, IsValue}
use Rattle.json_text.specs.Rest.{Kept, holding, After, BeforeValue, BeforeFirst, word_of, letters_left, part_after, may_end, OnPart, Completes, InText, Rest}
use Rattle.json_text.specs.Machine.{letter_after, letters_after, start_of, start_of_number, start_move, open_move, end_move, number_move, word_move}
use Rattle.json_text.proofs.ByteTests.{eq_of, by_cond}
use Rattle.json_text.proofs.NumberLemmas.{number_spelled}
use Rattle.json_text.proofs.Goes.{Goes, sides, out_reads, out_gives, out_stuck, out_first}

-- a byte and what follows it
pub cons : {b c : ℕ} {m n : List Mark} → b ≡ c → m ≡ n → Seen (Byte b) ∷ m ≡ Seen (Byte c) ∷ n
cons {b} {c} {m} {n} e f = ap (λ x. Seen (Byte x) ∷ m) e ∙ ap (λ x. Seen (Byte c) ∷ x) f

-- what a byte that begins a value is
abbrev pub Says : Start → ℕ → Type 0
Says start_.Quote b = b ≡ 34
Says (start_.Open bracket) b = b ≡ opening bracket
Says (start_.Word letters) b = letters_of (word_of letters) ≡ b ∷ letters_left letters
Says (start_.Number part) b = part_after part_.Nothing (kind_of b) ≡ Some part
Says start_.Nothing b = Unit {0}

-- a byte that begins a number continues one behind nothing
says_number : (b : ℕ) (next : Option Part) → part_after part_.Nothing (kind_of b) ≡ next → Says (start_of_number next) b
says_number b None e = tt
says_number b (Some part) e = e

-- each byte is what it begins
says : (b : ℕ) → Says (start_of b) b
says b =
    by_cond (λ s. Says s b) (eqb b 34) _ _ (λ e. eq_of b 34 e) (λ n1.
    by_cond (λ s. Says s b) (eqb b 91) _ _ (λ e. eq_of b 91 e) (λ n2.
    by_cond (λ s. Says s b) (eqb b 123) _ _ (λ e. eq_of b 123 e) (λ n3.
    by_cond (λ s. Says s b) (eqb b 116) _ _ (λ e. ap (λ x. x ∷ letters_left letters_.T) (sym (eq_of b 116 e))) (λ n4.
    by_cond (λ s. Says s b) (eqb b 102) _ _ (λ e. ap (λ x. x ∷ letters_left letters_.F) (sym (eq_of b 102 e))) (λ n5.
    by_cond (λ s. Says s b) (eqb b 110) _ _ (λ e. ap (λ x. x ∷ letters_left letters_.N) (sym (eq_of b 110 e))) (λ n6.
    says_number b (part_after part_.Nothing (kind_of b)) refl))))))

-- a value and what follows it
pub record Found (room : ℕ) (opens : List Bracket) (marks : List Mark) : Type 0 where
  pub value : Value
  pub rest : List Mark
  pub is : IsValue value room
  pub printed : marks ≡ print_value value rest
  pub after : After room opens rest

-- a bracket begins a group
opened : (bracket : Bracket) (room : ℕ) (opens : List Bracket) (content : List ℕ) (b : ℕ) (marks : List Mark)
    → b ≡ opening bracket → Goes (open_move bracket room opens content) marks → Found room opens (Seen (Byte b) ∷ marks)
opened bracket zero opens content b marks e g = absurd (out_stuck g)
opened bracket (suc room) opens content b marks e g = opened_at (out_gives g)
  where
    opened_at : (rest : List Mark) × (marks ≡ Given (Step.Opens bracket) ∷ rest) × BeforeFirst room (bracket ∷ opens) rest →
        Found (suc room) opens (Seen (Byte b) ∷ marks)
    opened_at (inner, p, (entries, rest, h, q, a)) =
        record {
          value = Group bracket entries;
          rest = rest;
          is = h;
          printed = cons e (p ∙ ap (λ m. Given (Step.Opens bracket) ∷ m) q);
          after = a;
        }

-- what a byte begins goes on to a value
found : (start : Start) (kept : Kept) (b : ℕ) (marks : List Mark)
    → Says start b → Goes (start_move start kept b) marks → Found kept.room kept.opens (Seen (Byte b) ∷ marks)
found start_.Quote kept b marks s g = text_at (out_reads g)
  where
    text_at : InText role_.Value (holding kept []) None marks → Found kept.room kept.opens (Seen (Byte b) ∷ marks)
    text_at (chars, rest, h, p, a) = record { value = Text chars; rest = rest; is = h; printed = cons s p; after = a }
found (start_.Open bracket) kept b marks s g = opened bracket kept.room kept.opens kept.content b marks s g
found (start_.Word letters) kept b marks s g = word_at (out_reads g)
  where
    word_at : (rest : List Mark) × (marks ≡ see (letters_left letters) (Given (Step.Word (word_of letters)) ∷ rest)) ×
        After kept.room kept.opens rest → Found kept.room kept.opens (Seen (Byte b) ∷ marks)
    word_at (rest, p, a) = record {
      value = Word (word_of letters);
      rest = rest;
      is = tt;
      printed = ap (λ m. Seen (Byte b) ∷ m) p ∙ ap (λ ls. see ls (Given (Step.Word (word_of letters)) ∷ rest)) (sym s);
      after = a;
    }
found (start_.Number part) kept b marks s g = number_at (out_reads g)
  where
    number_at : (bytes : List ℕ) × (rest : List Mark) × Completes bytes part ×
        (marks ≡ see bytes (Given (Step.Number (b ∷ bytes)) ∷ rest)) × After kept.room kept.opens rest →
        Found kept.room kept.opens (Seen (Byte b) ∷ marks)
    number_at (bytes, rest, c, p, a) = record {
      value = Number (b ∷ bytes);
      rest = rest;
      is = number_spelled (b ∷ bytes) (subst (λ o. OnPart o (Completes bytes)) (sym s) c);
      printed = ap (λ m. Seen (Byte b) ∷ m) p;
      after = a;
    }
found start_.Nothing kept b marks s g = absurd (out_stuck g)

-- so does each byte that begins something
pub found_at : (kept : Kept) (b : ℕ) (marks : List Mark)
    → Goes (start_move (start_of b) kept b) marks → Found kept.room kept.opens (Seen (Byte b) ∷ marks)
found_at kept b marks g = found (start_of b) kept b marks (says b) g

-- before a value
pub value_back : (room : ℕ) (opens : List Bracket) (b : ℕ) (marks : List Mark) → is_space b ≡ true → BeforeValue room opens marks →
    BeforeValue room opens (Seen (Byte b) ∷ marks)
value_back room opens b marks e (space, value, rest, h, v, p, a) = (b ∷ space, value, rest, (e, h), v, ap (λ m. Seen (Byte b) ∷ m) p, a)

-- a value that is found stands behind no space
pub value_found : (room : ℕ) (opens : List Bracket) (marks : List Mark) → Found room opens marks → BeforeValue room opens marks
value_found room opens marks f = ([], f.value, f.rest, tt, f.is, f.printed, f.after)

-- in a word
pub word_back : (letters : Letters) (kept : Kept) (b : ℕ) (marks : List Mark) → b ≡ letter_after letters
    → Goes (word_move letters (letters_after letters) kept) marks → Rest (mode_.Word letters) kept (Seen (Byte b) ∷ marks)
word_back letters_.T kept b marks e g = let (rest, p, a) = out_reads g in (rest, cons e p, a)
word_back letters_.Tr kept b marks e g = let (rest, p, a) = out_reads g in (rest, cons e p, a)
word_back letters_.Tru kept b marks e g = let (rest, p, a) = out_gives g in (rest, cons e p, a)
word_back letters_.F kept b marks e g = let (rest, p, a) = out_reads g in (rest, cons e p, a)
word_back letters_.Fa kept b marks e g = let (rest, p, a) = out_reads g in (rest, cons e p, a)
word_back letters_.Fal kept b marks e g = let (rest, p, a) = out_reads g in (rest, cons e p, a)
word_back letters_.Fals kept b marks e g = let (rest, p, a) = out_gives g in (rest, cons e p, a)
word_back letters_.N kept b marks e g = let (rest, p, a) = out_reads g in (rest, cons e p, a)
word_back letters_.Nu kept b marks e g = let (rest, p, a) = out_reads g in (rest, cons e p, a)
word_back letters_.Nul kept b marks e g = let (rest, p, a) = out_gives g in (rest, cons e p, a)

-- in a number
pub no_end : (part : Part) (kept : Kept) (marks : List Mark) → Goes (end_move part kept) marks → ⊥
no_end part kept marks g = elim (sides (may_end part) _ _ marks g) [
  | inl f ↦ out_first f.1
  | inr f ↦ out_stuck f.1
]

-- a byte more of a number
pub number_back : (part : Part) (next : Option Part) (kept : Kept) (b : ℕ) (marks : List Mark)
    → part_after part (kind_of b) ≡ next → Goes (number_move part next kept b) marks → Rest (mode_.Number part) kept (Seen (Byte b) ∷ marks)
number_back part None kept b marks e g = absurd (no_end part kept marks g)
number_back part (Some next) kept b marks e g = digit_at (out_reads g)
  where
    digit_at : Rest (mode_.Number next) (holding kept (kept.content ++ (b ∷ []))) marks →
        Rest (mode_.Number part) kept (Seen (Byte b) ∷ marks)
    digit_at (bytes, rest, c, p, a) = (
      b ∷ bytes,
      rest,
      subst (λ o. OnPart o (Completes bytes)) (sym e) c,
      ap (λ m. Seen (Byte b) ∷ m) (p ∙ ap (λ x. see bytes (Given (Step.Number x) ∷ rest)) (append_assoc kept.content (b ∷ []) bytes)),
      a,
    )
