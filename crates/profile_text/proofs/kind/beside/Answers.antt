use Rattle.std.proofs.Common.{◌≡◌, ◌∙◌, ◌+◌, ◌<◌, ◌≤◌, ℕ, zero, suc, true, false, cond, List, [], ◌∷◌, length, get_or, drop, arith}
use Rattle.std.proofs.Common.{Some, None, refl, sym, ap}
use Rattle.std.specs.Borrow.{Bor}
use Rattle.std.specs.Str.{bytes_eq}
use Rattle.profile_text.specs.Kind.{beside, words_in}
use Rattle.profile_text.proofs.kind.beside.Goals as goal

-- the word of a row is the text, or the text stands in the rows behind it
next_row : {A : Type 0} (rows : List (Bor (List ℕ) × A)) (place : ℕ) (text word : List ℕ) (d e : Bor (List ℕ) × A)
    → place < length rows → word ≡ (get_or rows place d).0.now
    → beside (words_in (drop place rows)) text
    ≡ cond (bytes_eq text word) (Some (get_or rows place e).1) (beside (words_in (drop (place + 1) rows)) text)
next_row {A} rows place text word d e fits is =
    by_place rows place fits is
    ∙ ap (λ n. cond (bytes_eq text word) (Some (get_or rows place e).1) (beside (words_in (drop n rows)) text)) next
  where
    next : suc place ≡ place + 1
    next = omega arith

    by_place : (rs : List (Bor (List ℕ) × A)) (i : ℕ) → i < length rs → word ≡ (get_or rs i d).0.now
        → beside (words_in (drop i rs)) text
        ≡ cond (bytes_eq text word) (Some (get_or rs i e).1) (beside (words_in (drop (suc i) rs)) text)
    by_place [] i fits is = absurd (omega arith)
    by_place (r ∷ rs) zero fits is = ap (λ w. cond (bytes_eq text w) (Some r.1) (beside (words_in rs) text)) (sym is)
    by_place (r ∷ rs) (suc i) fits is = by_place rs i (omega arith) is

-- a row whose word is not the text is passed
passed_row : {A : Type 0} (rows : List (Bor (List ℕ) × A)) (place : ℕ) (text word : List ℕ) (d : Bor (List ℕ) × A) → place < length rows
    → word ≡ (get_or rows place d).0.now → false ≡ bytes_eq text word
    → beside (words_in (drop place rows)) text ≡ beside (words_in (drop (place + 1) rows)) text
passed_row rows place text word d fits is test =
    next_row rows place text word d d fits is
    ∙ ap (λ b. cond b (Some (get_or rows place d).1) (beside (words_in (drop (place + 1) rows)) text)) (sym test)

-- beside one whose word is the text stands what is found
met_row : {A : Type 0} (rows : List (Bor (List ℕ) × A)) (place : ℕ) (text word : List ℕ) (d e : Bor (List ℕ) × A) → place < length rows
    → word ≡ (get_or rows place d).0.now → true ≡ bytes_eq text word
    → beside (words_in (drop place rows)) text ≡ Some (get_or rows place e).1
met_row rows place text word d e fits is test =
    next_row rows place text word d e fits is
    ∙ ap (λ b. cond b (Some (get_or rows place e).1) (beside (words_in (drop (place + 1) rows)) text)) (sym test)

-- behind the last row the text stands nowhere
no_row : {A : Type 0} (rows : List (Bor (List ℕ) × A)) (place : ℕ) (text : List ℕ) → length rows ≤ place
    → beside (words_in (drop place rows)) text ≡ None
no_row [] zero text past = refl
no_row [] (suc place) text past = refl
no_row (row ∷ rows) zero text past = absurd (omega arith)
no_row (row ∷ rows) (suc place) text past = no_row rows place text (omega arith)

pub rows-init : goal.rows-init
rows-init g c = refl

pub rows-preserved : goal.rows-preserved
rows-preserved g c =
    c.rows.invariant
    ∙ passed_row c.args.rows.now c.rows.place c.args.text.now c.as_bytes.result.now c.index-rows-place.result c.rows-test.true
    c.as_bytes.ensures.value c.if-eq.ensures

pub returns-then-eq : goal.returns-then-eq
returns-then-eq g c = record {
  value = sym (c.rows.invariant
      ∙ met_row c.args.rows.now c.rows.place c.args.text.now c.as_bytes.result.now c.index-rows-place.result
      c.index-rows-place-in-rows.result c.rows-test.true c.as_bytes.ensures.value c.if-eq.ensures);
}

pub returns : goal.returns
returns g c = record { value = sym (c.rows.invariant ∙ no_row c.args.rows.now c.rows.place c.args.text.now c.rows-test.false) }
