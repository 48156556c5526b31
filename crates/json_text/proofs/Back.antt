-- Where a move leads to what may follow, what may follow begins with the move's symbol.
use Rattle.std.proofs.Common.{ℕ, inl, inr, eqb, List, [], ◌∷◌, refl, sym, ◌∙◌, ap}
use Rattle.json_text.specs.declared.mode.Bracket.{Bracket}
use Rattle.json_text.specs.declared.mode.Mode.{Mode}
use Rattle.json_text.specs.declared.mode.Mode.TheVariants as mode_
use Rattle.json_text.specs.Marks.{Byte, End, Step, Mark, Seen, Given}
use Rattle.json_text.specs.Bytes.{is_space, kind_of}
use Rattle.json_text.specs.Rest.{Kept, keeping, After, BeforeFirst, part_after, Rest}
use Rattle.json_text.specs.Machine.{letter_after, byte_move, last_move, finish_move}
use Rattle.json_text.proofs.ByteTests.{eq_of}
use Rattle.json_text.proofs.Goes.{Goes, Ends, Follows, sides, out_reads, out_stuck, out_finishes}
use Rattle.json_text.proofs.BackValues.{found_at, value_back, value_found, word_back, no_end, number_back}
use Rattle.json_text.proofs.BackEntries.{first_back, colon_back, name_back, after_back}
use Rattle.json_text.proofs.Lists.{append_nil}
use Rattle.json_text.proofs.BackTexts.{place_back}

-- behind a bracket that opened, or where none did
byte_first_back : (room : ℕ) (opens : List Bracket) (content : List ℕ) (b : ℕ) (marks : List Mark)
    → Goes (byte_move mode_.First (keeping room opens content) b) marks → BeforeFirst room opens (Seen (Byte b) ∷ marks)
byte_first_back room [] content b marks g = elim (sides (is_space b) _ _ marks g) [
  | inl f ↦ value_back room [] b marks f.0 (out_reads f.1)
  | inr f ↦ value_found room [] _ (found_at (keeping room [] content) b marks f.1)
]
byte_first_back room (bracket ∷ opens) content b marks g = first_back bracket (keeping room opens content) b marks g

-- at any place, by a byte
byte_back : (mode : Mode) (kept : Kept) (b : ℕ) (marks : List Mark) → Goes (byte_move mode kept b) marks →
    Rest mode kept (Seen (Byte b) ∷ marks)
byte_back mode_.Value kept b marks g = elim (sides (is_space b) _ _ marks g) [
  | inl f ↦ value_back kept.room kept.opens b marks f.0 (out_reads f.1)
  | inr f ↦ value_found kept.room kept.opens _ (found_at kept b marks f.1)
]
byte_back mode_.First kept b marks g = byte_first_back kept.room kept.opens kept.content b marks g
byte_back mode_.After kept b marks g = after_back kept.room kept.opens kept.content b marks g
byte_back mode_.Name kept b marks g = name_back kept b marks g
byte_back mode_.Colon kept b marks g = colon_back kept b marks g
byte_back (mode_.Word letters) kept b marks g = elim (sides (eqb b (letter_after letters)) _ _ marks g) [
  | inl f ↦ word_back letters kept b marks (eq_of b (letter_after letters) f.0) f.1
  | inr f ↦ absurd (out_stuck f.1)
]
byte_back (mode_.Number part) kept b marks g = number_back part (part_after part (kind_of b)) kept b marks refl g
byte_back (mode_.Text role place) kept b marks g = place_back role place kept b marks g

-- behind a value, by the end of the text
end_after_back : (room : ℕ) (opens : List Bracket) (marks : List Mark) → Goes (finish_move opens) marks →
    After room opens (Seen End ∷ marks)
end_after_back room [] marks g = ([], tt, ap (λ m. Seen End ∷ m) (out_finishes g))
end_after_back room (bracket ∷ opens) marks g = absurd (out_stuck g)

-- by the end of the text
end_back : (mode : Mode) (kept : Kept) (marks : List Mark) → Goes (last_move mode kept) marks → Rest mode kept (Seen End ∷ marks)
end_back mode_.After kept marks g = end_after_back kept.room kept.opens marks g
end_back (mode_.Number part) kept marks g = absurd (no_end part kept marks g)
end_back _ kept marks g = absurd (out_stuck g)

-- a step that stands first
given_back : (mode : Mode) (kept : Kept) (step : Step) (marks : List Mark)
    → Ends mode kept step marks → Rest mode kept (Given step ∷ marks)
given_back (mode_.Number part) kept step marks (m, e, a) =
    ([], marks, m, ap (λ s. Given s ∷ marks) (e ∙ ap Step.Number (sym (append_nil kept.content))), a)
given_back _ kept step marks h = absurd h

-- at any place
pub back : (mode : Mode) (kept : Kept) (marks : List Mark) → Follows mode kept marks → Rest mode kept marks
back mode kept [] f = absurd f
back mode kept (Seen (Byte b) ∷ marks) f = byte_back mode kept b marks f
back mode kept (Seen End ∷ marks) f = end_back mode kept marks f
back mode kept (Given step ∷ marks) f = given_back mode kept step marks f
