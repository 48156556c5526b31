-- Between brackets, where a move leads to what may follow, what may follow begins with the move's symbol.
use Rattle.std.proofs.Common.{◌≡◌, ℕ, suc, inl, inr, true, eqb, List, [], ◌∷◌, refl, ◌∙◌, ap, None}
use Rattle.json_text.specs.declared.mode.Bracket.{Bracket}
use Rattle.json_text.specs.declared.mode.Bracket.TheVariants as bracket_
use Rattle.json_text.specs.declared.mode.Role.TheVariants as role_
use Rattle.json_text.specs.declared.mode.Mode.TheVariants as mode_
use Rattle.json_text.specs.Marks.{Byte, Step, Mark, Seen, Given, see}
use Rattle.json_text.specs.Bytes.{is_space}
use Rattle.json_text.specs.Chars.{print_text}
use Rattle.json_text.specs.Grammar.{NoName, Named, Value, Empty, Entry, Last, Next, closing, print_value, IsValue}
use Rattle.json_text.specs.Rest.{Kept, keeping, holding, After, BeforeColon, BeforeName, BeforeFirst, InText, Rest}
use Rattle.json_text.specs.Machine.{name_move, entry_move, entry_mode, byte_move}
use Rattle.json_text.proofs.ByteTests.{eq_of}
use Rattle.json_text.proofs.Goes.{Goes, sides, out_reads, out_gives, out_stuck}
use Rattle.json_text.proofs.BackValues.{Found, cons, found_at}

-- a space more behind an entry
others_spaced : (bracket : Bracket) (room : ℕ) (opens : List Bracket) (b : ℕ) (marks : List Mark) → is_space b ≡ true
    → After room (bracket ∷ opens) marks → After room (bracket ∷ opens) (Seen (Byte b) ∷ marks)
others_spaced bracket room opens b marks e (Last space, rest, h, p, a) = (Last (b ∷ space), rest, (e, h), ap (λ m. Seen (Byte b) ∷ m) p, a)
others_spaced bracket room opens b marks e (Next space behind name value others, rest, h, p, a) =
    (Next (b ∷ space) behind name value others, rest, ((e, h.0), h.1, h.2, h.3, h.4), ap (λ m. Seen (Byte b) ∷ m) p, a)

-- a space more in front of all entries
entries_spaced : (bracket : Bracket) (room : ℕ) (opens : List Bracket) (b : ℕ) (marks : List Mark) → is_space b ≡ true
    → BeforeFirst room (bracket ∷ opens) marks → BeforeFirst room (bracket ∷ opens) (Seen (Byte b) ∷ marks)
entries_spaced bracket room opens b marks e (Empty space, rest, h, p, a) =
    (Empty (b ∷ space), rest, (e, h), ap (λ m. Seen (Byte b) ∷ m) p, a)
entries_spaced bracket room opens b marks e (Entry space name value others, rest, h, p, a) =
    (Entry (b ∷ space) name value others, rest, ((e, h.0), h.1, h.2, h.3), ap (λ m. Seen (Byte b) ∷ m) p, a)

-- an entry in front of others
entry_others : (bracket : Bracket) (kept : Kept) (b : ℕ) (marks : List Mark)
    → b ≡ 44 → Rest (entry_mode bracket) (keeping kept.room (bracket ∷ kept.opens) kept.content) marks →
    After kept.room (bracket ∷ kept.opens) (Seen (Byte b) ∷ marks)
entry_others bracket_.Square kept b marks e (space, value, r1, h, v, p, (others, rest, ho, q, a)) =
    (Next [] space NoName value others, rest, (tt, h, tt, v, ho), cons e (p ∙ ap (λ r. see space (print_value value r)) q), a)
entry_others bracket_.Curly kept b marks e (
  space,
  chars,
  r1,
  h,
  hc,
  p,
  (c, r2, hs, q, (d, value, r3, hd, v, r, (others, rest, ho, s, a))),
) = (
  Next [] space (Named chars c d) value others,
  rest,
  (tt, h, (hc, hs, hd), v, ho),
  cons e (p ∙ ap (λ x. see space (print_text role_.Name chars x)) (q
      ∙ ap (λ x. see c (Seen (Byte 58) ∷ x)) (r ∙ ap (λ x. see d (print_value value x)) s))),
  a,
)

-- behind an entry
others_back : (bracket : Bracket) (kept : Kept) (b : ℕ) (marks : List Mark)
    → Goes (byte_move mode_.After (keeping kept.room (bracket ∷ kept.opens) kept.content) b) marks →
    After kept.room (bracket ∷ kept.opens) (Seen (Byte b) ∷ marks)
others_back bracket kept b marks g = elim (sides (is_space b) _ _ marks g) [
  | inl f ↦ others_spaced bracket kept.room kept.opens b marks f.0 (out_reads f.1)
  | inr f ↦ elim (sides (eqb b (closing bracket)) _ _ marks f.1) [
    | inl k ↦ closed (eq_of b (closing bracket) k.0) (out_gives k.1)
    | inr k ↦ elim (sides (eqb b 44) _ _ marks k.1) [
      | inl l ↦ entry_others bracket kept b marks (eq_of b 44 l.0) (out_reads l.1)
      | inr l ↦ absurd (out_stuck l.1)
    ]
  ]
]
  where
    closed : b ≡ closing bracket → (rest : List Mark) × (marks ≡ Given (Step.Closes bracket) ∷ rest) ×
        After (suc kept.room) kept.opens rest → After kept.room (bracket ∷ kept.opens) (Seen (Byte b) ∷ marks)
    closed e (rest, p, a) = (Last [], rest, tt, cons e p, a)

-- the name of a member, begun by its quotation mark
named : (kept : Kept) (b : ℕ) (marks : List Mark)
    → Goes (name_move kept b) marks → BeforeName kept.room kept.opens (Seen (Byte b) ∷ marks)
named kept b marks g = elim (sides (eqb b 34) _ _ marks g) [
  | inl f ↦ named_at (eq_of b 34 f.0) (out_reads f.1)
  | inr f ↦ absurd (out_stuck f.1)
]
  where
    named_at : b ≡ 34 → InText role_.Name (holding kept []) None marks → BeforeName kept.room kept.opens (Seen (Byte b) ∷ marks)
    named_at e (chars, rest, h, p, k) = ([], chars, rest, tt, h, cons e p, k)

-- the first entry
first_entry : (bracket : Bracket) (kept : Kept) (b : ℕ) (marks : List Mark)
    → Goes (entry_move bracket (keeping kept.room (bracket ∷ kept.opens) kept.content) b) marks →
    BeforeFirst kept.room (bracket ∷ kept.opens) (Seen (Byte b) ∷ marks)
first_entry bracket_.Square kept b marks g = item (found_at (keeping kept.room (bracket_.Square ∷ kept.opens) kept.content) b marks g)
  where
    item_at : (value : Value) (r1 : List Mark) → IsValue value kept.room → Seen (Byte b) ∷ marks ≡ print_value value r1 →
        After kept.room (bracket_.Square ∷ kept.opens) r1
        → BeforeFirst kept.room (bracket_.Square ∷ kept.opens) (Seen (Byte b) ∷ marks)
    item_at value r1 v p (others, rest, ho, q, a) =
        (Entry [] NoName value others, rest, (tt, tt, v, ho), p ∙ ap (λ r. print_value value r) q, a)

    item : Found kept.room (bracket_.Square ∷ kept.opens) (Seen (Byte b) ∷ marks) →
        BeforeFirst kept.room (bracket_.Square ∷ kept.opens) (Seen (Byte b) ∷ marks)
    item f = item_at f.value f.rest f.is f.printed f.after
first_entry bracket_.Curly kept b marks g = member (named (keeping kept.room (bracket_.Curly ∷ kept.opens) kept.content) b marks g)
  where
    member : BeforeName kept.room (bracket_.Curly ∷ kept.opens) (Seen (Byte b) ∷ marks) →
        BeforeFirst kept.room (bracket_.Curly ∷ kept.opens) (Seen (Byte b) ∷ marks)
    member (space, chars, r1, h, hc, p, (c, r2, hs, q, (d, value, r3, hd, v, r, (others, rest, ho, s, a)))) = (
      Entry space (Named chars c d) value others,
      rest,
      (h, (hc, hs, hd), v, ho),
      p ∙ ap (λ x. see space (print_text role_.Name chars x)) (q
          ∙ ap (λ x. see c (Seen (Byte 58) ∷ x)) (r ∙ ap (λ x. see d (print_value value x)) s)),
      a,
    )

-- behind a bracket that opened
pub first_back : (bracket : Bracket) (kept : Kept) (b : ℕ) (marks : List Mark)
    → Goes (byte_move mode_.First (keeping kept.room (bracket ∷ kept.opens) kept.content) b) marks →
    BeforeFirst kept.room (bracket ∷ kept.opens) (Seen (Byte b) ∷ marks)
first_back bracket kept b marks g = elim (sides (is_space b) _ _ marks g) [
  | inl f ↦ entries_spaced bracket kept.room kept.opens b marks f.0 (out_reads f.1)
  | inr f ↦ elim (sides (eqb b (closing bracket)) _ _ marks f.1) [
    | inl k ↦ closed (eq_of b (closing bracket) k.0) (out_gives k.1)
    | inr k ↦ first_entry bracket kept b marks k.1
  ]
]
  where
    closed : b ≡ closing bracket → (rest : List Mark) × (marks ≡ Given (Step.Closes bracket) ∷ rest) ×
        After (suc kept.room) kept.opens rest → BeforeFirst kept.room (bracket ∷ kept.opens) (Seen (Byte b) ∷ marks)
    closed e (rest, p, a) = (Empty [], rest, tt, cons e p, a)

-- behind the name of a member
pub colon_back : (kept : Kept) (b : ℕ) (marks : List Mark)
    → Goes (byte_move mode_.Colon kept b) marks → BeforeColon kept.room kept.opens (Seen (Byte b) ∷ marks)
colon_back kept b marks g = elim (sides (is_space b) _ _ marks g) [
  | inl f ↦ spaced f.0 (out_reads f.1)
  | inr f ↦ elim (sides (eqb b 58) _ _ marks f.1) [
    | inl k ↦ ([], marks, tt, cons (eq_of b 58 k.0) refl, out_reads k.1)
    | inr k ↦ absurd (out_stuck k.1)
  ]
]
  where
    spaced : is_space b ≡ true → BeforeColon kept.room kept.opens marks → BeforeColon kept.room kept.opens (Seen (Byte b) ∷ marks)
    spaced e (space, rest, h, p, v) = (b ∷ space, rest, (e, h), ap (λ m. Seen (Byte b) ∷ m) p, v)

-- before the name of a member
pub name_back : (kept : Kept) (b : ℕ) (marks : List Mark)
    → Goes (byte_move mode_.Name kept b) marks → BeforeName kept.room kept.opens (Seen (Byte b) ∷ marks)
name_back kept b marks g = elim (sides (is_space b) _ _ marks g) [
  | inl f ↦ spaced f.0 (out_reads f.1)
  | inr f ↦ named kept b marks f.1
]
  where
    spaced : is_space b ≡ true → BeforeName kept.room kept.opens marks → BeforeName kept.room kept.opens (Seen (Byte b) ∷ marks)
    spaced e (space, chars, rest, h, c, p, k) = (b ∷ space, chars, rest, (e, h), c, ap (λ m. Seen (Byte b) ∷ m) p, k)

-- behind a value
pub after_back : (room : ℕ) (opens : List Bracket) (content : List ℕ) (b : ℕ) (marks : List Mark)
    → Goes (byte_move mode_.After (keeping room opens content) b) marks → After room opens (Seen (Byte b) ∷ marks)
after_back room [] content b marks g = elim (sides (is_space b) _ _ marks g) [
  | inl f ↦ spaced f.0 (out_reads f.1)
  | inr f ↦ absurd (out_stuck f.1)
]
  where
    spaced : is_space b ≡ true → After room [] marks → After room [] (Seen (Byte b) ∷ marks)
    spaced e (space, h, p) = (b ∷ space, (e, h), ap (λ m. Seen (Byte b) ∷ m) p)
after_back room (bracket ∷ opens) content b marks g = others_back bracket (keeping room opens content) b marks g
