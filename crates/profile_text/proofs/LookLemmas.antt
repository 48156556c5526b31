-- The values of a look, joined to how the code finds them.
use Rattle.std.proofs.Common.{◌≡◌, ℕ, ◌+◌, Bool, true, false, not, cond, List, [], ◌∷◌, length, take, drop, nat_eq, refl, sym, ◌∙◌, ap, arith}
use Rattle.std.proofs.lemmas.Bool.Decides.{nat_tests}
use Rattle.std.specs.List.{prefix_len, onto_first}
use Rattle.item_list.proofs.ListLemmas.{front_more}
use Rattle.profile_text.specs.Look.{is_value_byte, pieces}

-- the pieces after the first, which ends before a bar or with the text
abbrev pub later : List ℕ → List (List ℕ)
later [] = []
later (c ∷ cs) = pieces cs

-- the pieces of a text whose first has so many bytes
abbrev pub begins_with : ℕ → List ℕ → List (List ℕ)
begins_with n text = take n text ∷ later (drop n text)

-- the first piece, and the pieces after it
pub piece_first : (text : List ℕ) → pieces text ≡ begins_with (prefix_len is_value_byte text) text
piece_first [] = refl
piece_first (c ∷ cs) = by_test (nat_eq c 124) refl (piece_first cs)
  where
    by_test : (v : Bool) → nat_eq c 124 ≡ v → pieces cs ≡ begins_with (prefix_len is_value_byte cs) cs
        → pieces (c ∷ cs) ≡ begins_with (prefix_len is_value_byte (c ∷ cs)) (c ∷ cs)
    by_test true h rest =
        ap (λ v. cond v ([] ∷ pieces cs) (onto_first c (pieces cs))) h
        ∙ ap (λ v. begins_with (cond (not v) (1 + prefix_len is_value_byte cs) 0) (c ∷ cs)) (sym h)
    by_test false h rest =
        let n : ℕ = prefix_len is_value_byte cs in
        ap (λ v. cond v ([] ∷ pieces cs) (onto_first c (pieces cs))) h
        ∙ ap (onto_first c) rest
        ∙ ap (λ w. w ∷ later (drop n cs)) (sym (front_more n c cs).0)
        ∙ ap (λ w. take (1 + n) (c ∷ cs) ∷ later w) (sym (front_more n c cs).1)
        ∙ ap (λ v. begins_with (cond (not v) (1 + prefix_len is_value_byte cs) 0) (c ∷ cs)) (sym h)

-- a list with an item isn't empty
not_empty : (c : ℕ) (cs : List ℕ) → true ≡ nat_eq (length (c ∷ cs)) 0 → ⊥
not_empty c cs h = grind (arith, nat_tests, h)

-- a piece that ends the text is the last
pub last_piece : (text piece after : List ℕ) (n : ℕ) → n ≡ prefix_len is_value_byte text → piece ≡ take n text → after ≡ drop n text
    → true ≡ nat_eq (length after) 0 → pieces text ≡ piece ∷ []
last_piece text piece [] n n_is piece_is after_is none =
    piece_first text
    ∙ ap (λ m. begins_with m text) (sym n_is)
    ∙ ap (λ w. take n text ∷ later w) (sym after_is)
    ∙ ap (λ w. w ∷ []) (sym piece_is)
last_piece text piece (c ∷ cs) n n_is piece_is after_is none = absurd (not_empty c cs none)

-- a piece that a bar ends is followed by others
pub next_piece : (text piece after rest : List ℕ) (n : ℕ) → n ≡ prefix_len is_value_byte text → piece ≡ take n text → after ≡ drop n text
    → false ≡ nat_eq (length after) 0 → rest ≡ drop 1 after → pieces text ≡ piece ∷ pieces rest
next_piece text piece [] rest n n_is piece_is after_is some rest_is =
    cc
next_piece text piece (c ∷ cs) rest n n_is piece_is after_is some rest_is =
    piece_first text
    ∙ ap (λ m. begins_with m text) (sym n_is)
    ∙ ap (λ w. take n text ∷ later w) (sym after_is)
    ∙ ap (λ w. w ∷ pieces cs) (sym piece_is)
    ∙ ap (λ w. piece ∷ pieces w) (sym rest_is)
