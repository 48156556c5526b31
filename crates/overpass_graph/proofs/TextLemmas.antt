-- Texts of tags.
use Rattle.std.proofs.Common.{◌≡◌, ◌≢◌, ℕ, zero, suc, ◌+◌, ◌-◌, ◌<◌, ◌≤◌, true, false, inl, inr, List, [], ◌∷◌, ◌++◌, length, get_or, take, drop, refl, sym, ap, ◌∙◌, subst, arith, eq-eqb}
use Rattle.std.proofs.lemmas.Bool.{ne_eqb, cases_eq}
use Rattle.std.proofs.lemmas.Bool.Decides.{nat_tests}
use Rattle.std.proofs.lemmas.List.{drop_more, take_more, take_all}
use Rattle.std.proofs.lemmas.List.Sums.{prefix_len_passes, prefix_len_stops}
use Rattle.std.specs.List.{prefix_len}
use Rattle.std.specs.Str.{bytes_eq}
use Rattle.item_list.specs.Bytes.{is_other}
use Rattle.overpass_graph.specs.Texts.{bicycle}
use Rattle.overpass_graph.specs.Restrictions.{without_front, without_end, trimmed, pieces, names_bicycle}

-- ---- Spaces at the ends

-- a space at the front goes
pub front-space : (text : List ℕ) (k : ℕ) → k < length text → get_or text k 0 ≡ 32 →
    without_front (drop k text) ≡ without_front (drop (k + 1) text)
front-space text k below space = rw (drop_more text k 0 below, eq-eqb (get_or text k 0) 32 space) refl

-- from another byte on all stays
pub front-ink : (text : List ℕ) (k : ℕ) → k < length text → (get_or text k 0 ≡ 32 → ⊥) → without_front (drop k text) ≡ drop k text
front-ink text k below ink = rw (drop_more text k 0 below, ne_eqb (get_or text k 0) 32 ink) refl

-- a space at the end goes
end-space : (xs : List ℕ) (c : ℕ) → c ≡ 32 → without_end (xs ++ c ∷ []) ≡ without_end xs
end-space [] c space = rw (eq-eqb c 32 space) refl
end-space (x ∷ xs) c space = rw (end-space xs c space) refl

-- another byte at the end stays
end-ink : (xs : List ℕ) (c : ℕ) → (c ≡ 32 → ⊥) → without_end (xs ++ c ∷ []) ≡ xs ++ c ∷ []
end-ink [] c ink = rw (ne_eqb c 32 ink) refl
end-ink (x ∷ []) c ink = rw (end-ink [] c ink) refl
end-ink (x ∷ y ∷ xs) c ink = rw (end-ink (y ∷ xs) c ink) refl

-- a space at the end of a front goes
pub end-less : (text : List ℕ) (end : ℕ) → 0 < end → end ≤ length text → get_or text (end - 1) 0 ≡ 32 →
    without_end (take end text) ≡ without_end (take (end - 1) text)
end-less text end some within space =
    let e : end ≡ (end - 1) + 1 = omega arith in
    ap (λ n. without_end (take n text)) e ∙ ap without_end (take_more text (end - 1) 0 (omega arith))
    ∙ end-space (take (end - 1) text) (get_or text (end - 1) 0) space

-- a front that ends with another byte stays
pub end-stays : (text : List ℕ) (end : ℕ) → 0 < end → end ≤ length text → (get_or text (end - 1) 0 ≡ 32 → ⊥) →
    without_end (take end text) ≡ take end text
end-stays text end some within ink =
    let e : end ≡ (end - 1) + 1 = omega arith in
    let front : take end text ≡ take (end - 1) text ++ get_or text (end - 1) 0 ∷ [] = ap (λ n. take n text) e
    ∙ take_more text (end - 1) 0 (omega arith) in
    ap without_end front ∙ end-ink (take (end - 1) text) (get_or text (end - 1) 0) ink ∙ sym front

-- ---- Pieces

-- there is no semicolon before this place, and one at it, or the text ends there
pub record IsPieceEnd (text : List ℕ) (end : ℕ) : Type 0 where
  pub before : (k : ℕ) → k < end → get_or text k 0 ≢ 59
  pub at : end < length text → get_or text end 0 ≡ 59

-- what passes is no semicolon
not-semicolon : (c : ℕ) → is_other 59 c ≡ true → c ≢ 59
not-semicolon c passes e =
    let never : is_other 59 59 ≡ true = subst (λ x. is_other 59 x ≡ true) e passes in absurd (cc)

-- what stops is one
is-semicolon : (c : ℕ) → is_other 59 c ≡ false → c ≡ 59
is-semicolon c stops = grind (arith, nat_tests, stops)

-- a piece ends before the first semicolon
pub piece-end : (text : List ℕ) (end : ℕ) → end ≡ prefix_len (is_other 59) text → IsPieceEnd text end
piece-end text end same = record {
  before = λ k below. not-semicolon _ (prefix_len_passes (is_other 59) text k 0 (omega (arith, below, same)));
  at = λ below. is-semicolon _ (rw same (prefix_len_stops (is_other 59) text 0 (omega (arith, below, same))));
}

-- a text without a semicolon is one piece
pub piece-whole : (text : List ℕ) → IsPieceEnd text (length text) → pieces text ≡ text ∷ []
piece-whole [] end = refl
piece-whole (c ∷ cs) end =
    let here : c ≢ 59 = end.before 0 (omega arith) in
    let rest = piece-whole cs (record { before = λ k below. end.before (suc k) (omega arith); at = λ below. absurd (omega arith) }) in
    rw (ne_eqb c 59 here, rest) refl

-- a text is its first piece and those behind the semicolon
pub piece-cut : (text : List ℕ) (end : ℕ) → IsPieceEnd text end → end < length text →
    pieces text ≡ take end text ∷ pieces (drop (end + 1) text)
piece-cut [] end is below = absurd (omega arith)
piece-cut (c ∷ cs) zero is below = rw (eq-eqb c 59 (is.at below)) refl
piece-cut (c ∷ cs) (suc end) is below =
    let here : c ≢ 59 = is.before 0 (omega arith) in
    let rest = piece-cut cs end (record { before = λ k under. is.before (suc k) (omega arith); at = λ under. is.at (omega arith) })
    (omega arith) in
    let e : suc end + 1 ≡ suc (end + 1) = omega arith in
    rw (ne_eqb c 59 here, rest, e) refl

-- the first piece says `bicycle`
pub bicycle-here : (text : List ℕ) (end : ℕ) → IsPieceEnd text end → end ≤ length text → bytes_eq (trimmed (take end text)) bicycle ≡ true →
    names_bicycle (pieces text) ≡ true
bicycle-here text end is within told =
    elim (cases_eq end (length text)) [
      | inl last ↦
          let whole : IsPieceEnd text (length text) = rw last at is in
          let all : take end text ≡ text = take_all end text (omega arith) in
          let says : bytes_eq (trimmed text) bicycle ≡ true = rw all at told in
          rw (piece-whole text whole, says) refl
      | inr inner ↦ rw (piece-cut text end is (omega arith), told) refl
    ]

-- no piece is left, and the last one doesn't say it
pub bicycle-nowhere : (text : List ℕ) (end : ℕ) → IsPieceEnd text end → length text ≤ end → end ≤ length text →
    bytes_eq (trimmed (take end text)) bicycle ≡ false →
    names_bicycle (pieces text) ≡ false
bicycle-nowhere text end is beyond within told =
    let last : end ≡ length text = omega arith in
    let whole : IsPieceEnd text (length text) = rw last at is in
    let all : take end text ≡ text = take_all end text beyond in
    let says : bytes_eq (trimmed text) bicycle ≡ false = rw all at told in
    rw (piece-whole text whole, says) refl

-- the first piece doesn't say it, so one behind it does or none
pub bicycle-behind : (text : List ℕ) (end : ℕ) → IsPieceEnd text end → end < length text →
    bytes_eq (trimmed (take end text)) bicycle ≡ false →
    names_bicycle (pieces text) ≡ names_bicycle (pieces (drop (end + 1) text))
bicycle-behind text end is below told = rw (piece-cut text end is below, told) refl
