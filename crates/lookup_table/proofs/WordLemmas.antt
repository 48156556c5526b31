-- Words, one after the other, and the white space at the end.
use Rattle.std.proofs.Common.{◌≡◌, ℕ, ◌+◌, ◌-◌, ◌<◌, ◌≤◌, Bool, true, false, not, cond, ◌&&◌, List, [], ◌∷◌, ◌++◌, length, nat_eq, get_or, take, drop, filter, refl, sym, ap, ◌∙◌, subst, arith}
use Rattle.std.proofs.lemmas.Bool.Decides.{nat_tests}
use Rattle.std.proofs.lemmas.List.{take_more}
use Rattle.std.specs.List.{prefix_len, slice_split, onto_first}
use Rattle.item_list.specs.Bytes.{is_space}
use Rattle.item_list.proofs.ListLemmas.{front_more, some_from_test}
use Rattle.lookup_table.specs.Words.{is_ink, is_some_text, words_of, trimmed}

-- ---- Before a word

-- a byte in front is no white space; nothing is asked of an empty text
abbrev pub BeginsWithInk : List ℕ → Type 0
BeginsWithInk [] = Unit {0}
BeginsWithInk (c ∷ cs) = is_space c ≡ false

-- white space in front leaves the words
words_of-space : (c : ℕ) (cs : List ℕ) → is_space c ≡ true → words_of (c ∷ cs) ≡ words_of cs
words_of-space c cs space =
    ap (λ v. filter is_some_text (cond v ([] ∷ slice_split is_space cs) (onto_first c (slice_split is_space cs)))) space

-- white space counts as one more of it
space_more : (c : ℕ) (cs : List ℕ) → is_space c ≡ true → prefix_len is_space (c ∷ cs) ≡ 1 + prefix_len is_space cs
space_more c cs space = ap (λ v. cond v (1 + prefix_len is_space cs) 0) space

-- the words are those after the white space in front
pub skip_space : (text : List ℕ)
    → (words_of (drop (prefix_len is_space text) text) ≡ words_of text) × BeginsWithInk (drop (prefix_len is_space text) text)
skip_space [] = (refl, tt)
skip_space (c ∷ cs) = by_test (is_space c) refl (skip_space cs)
  where
    by_test : (v : Bool) → is_space c ≡ v
        → (words_of (drop (prefix_len is_space cs) cs) ≡ words_of cs) × BeginsWithInk (drop (prefix_len is_space cs) cs)
        → (words_of (drop (prefix_len is_space (c ∷ cs)) (c ∷ cs)) ≡ words_of (c ∷ cs))
        × BeginsWithInk (drop (prefix_len is_space (c ∷ cs)) (c ∷ cs))
    by_test true space rest =
        let front : drop (prefix_len is_space (c ∷ cs)) (c ∷ cs) ≡ drop (prefix_len is_space cs) cs =
        ap (λ n. drop n (c ∷ cs)) (space_more c cs space) ∙ (front_more (prefix_len is_space cs) c cs).1 in
        (ap words_of front ∙ rest.0 ∙ sym (words_of-space c cs space), subst BeginsWithInk (sym front) rest.1)
    by_test false ink rest =
        let front : drop (prefix_len is_space (c ∷ cs)) (c ∷ cs) ≡ c ∷ cs =
        ap (λ v. drop (cond v (1 + prefix_len is_space cs) 0) (c ∷ cs)) ink in
        (ap words_of front, subst BeginsWithInk (sym front) ink)

-- the word in front of a text, which may be empty, and what is split after it
pub record SplitsWord (text : List ℕ) : Type 0 where
  pub tail : List (List ℕ)
  pub split : slice_split is_space text ≡ take (prefix_len is_ink text) text ∷ tail
  pub words : filter is_some_text tail ≡ words_of (drop (prefix_len is_ink text) text)

-- each text splits so
splits_word : (text : List ℕ) → SplitsWord text
splits_word [] = record { tail = []; split = refl; words = refl }
splits_word (c ∷ cs) = by_test (is_space c) refl (splits_word cs)
  where
    by_test : (v : Bool) → is_space c ≡ v → SplitsWord cs → SplitsWord (c ∷ cs)
    by_test true space rest =
        let none : prefix_len is_ink (c ∷ cs) ≡ 0 = ap (λ v. cond (not v) (1 + prefix_len is_ink cs) 0) space in
        record {
          tail = slice_split is_space cs;
          split = ap (λ v. cond v ([] ∷ slice_split is_space cs) (onto_first c (slice_split is_space cs))) space
              ∙ ap (λ n. take n (c ∷ cs) ∷ slice_split is_space cs) (sym none);
          words = sym (words_of-space c cs space) ∙ ap (λ n. words_of (drop n (c ∷ cs))) (sym none);
        }
    by_test false ink rest =
        let more : prefix_len is_ink (c ∷ cs) ≡ 1 + prefix_len is_ink cs = ap (λ v. cond (not v) (1 + prefix_len is_ink cs) 0) ink in
        let front : take (prefix_len is_ink (c ∷ cs)) (c ∷ cs) ≡ c ∷ take (prefix_len is_ink cs) cs =
        ap (λ n. take n (c ∷ cs)) more ∙ (front_more (prefix_len is_ink cs) c cs).0 in
        let back : drop (prefix_len is_ink (c ∷ cs)) (c ∷ cs) ≡ drop (prefix_len is_ink cs) cs =
        ap (λ n. drop n (c ∷ cs)) more ∙ (front_more (prefix_len is_ink cs) c cs).1 in
        record {
          tail = rest.tail;
          split =
              ap (λ v. cond v ([] ∷ slice_split is_space cs) (onto_first c (slice_split is_space cs))) ink
              ∙ ap (onto_first c) rest.split
              ∙ ap (λ w. w ∷ rest.tail) (sym front);
          words = rest.words ∙ ap words_of (sym back);
        }

-- a word in front, and the words after it
pub word_in_front : (text : List ℕ) → BeginsWithInk text → 0 < length text
    → (words_of text ≡ take (prefix_len is_ink text) text ∷ words_of (drop (prefix_len is_ink text) text)) × (0 < prefix_len is_ink text)
word_in_front [] ink some = absurd (omega arith)
word_in_front (c ∷ cs) ink some =
    let more : prefix_len is_ink (c ∷ cs) ≡ 1 + prefix_len is_ink cs = ap (λ v. cond (not v) (1 + prefix_len is_ink cs) 0) ink in
    let front : take (prefix_len is_ink (c ∷ cs)) (c ∷ cs) ≡ c ∷ take (prefix_len is_ink cs) cs =
    ap (λ n. take n (c ∷ cs)) more ∙ (front_more (prefix_len is_ink cs) c cs).0 in
    let splits : SplitsWord (c ∷ cs) = splits_word (c ∷ cs) in (
      ap (filter is_some_text) splits.split
          ∙ ap (λ w. filter is_some_text (w ∷ splits.tail)) front
          ∙ ap (λ w. w ∷ filter is_some_text splits.tail) (sym front)
          ∙ ap (λ ws. take (prefix_len is_ink (c ∷ cs)) (c ∷ cs) ∷ ws) splits.words,
      omega (arith, more),
    )

-- ---- At the end

-- the white space at the end goes
pub trimmed-space : (text : List ℕ) (c : ℕ) → is_space c ≡ true → trimmed (text ++ c ∷ []) ≡ trimmed text
trimmed-space [] c space = ap (λ v. cond (v && true) [] (c ∷ [])) space
trimmed-space (x ∷ xs) c space =
    ap (λ t. cond (is_space x && not (is_some_text t)) [] (x ∷ t)) (trimmed-space xs c space)

-- another byte at the end stays, and so do all before it
pub trimmed-ink : (text : List ℕ) (c : ℕ) → is_space c ≡ false → trimmed (text ++ c ∷ []) ≡ text ++ c ∷ []
trimmed-ink [] c ink = ap (λ v. cond (v && true) [] (c ∷ [])) ink
trimmed-ink (x ∷ xs) c ink =
    ap (λ t. cond (is_space x && not (is_some_text t)) [] (x ∷ t)) (trimmed-ink xs c ink) ∙ stays (is_space x) xs
  where
    stays : (v : Bool) (xs : List ℕ) → cond (v && not (is_some_text (xs ++ c ∷ []))) [] (x ∷ (xs ++ c ∷ [])) ≡ x ∷ (xs ++ c ∷ [])
    stays true [] = refl
    stays true (y ∷ ys) = refl
    stays false ys = refl

-- the byte before the end
take_before : (text : List ℕ) (end : ℕ) → 0 < end → end ≤ length text → take end text ≡ take (end - 1) text ++ get_or text (end - 1) 0 ∷ []
take_before text end some fits =
    let same : end ≡ end - 1 + 1 = omega arith in
    ap (λ n. take n text) same ∙ take_more text (end - 1) 0 (omega arith)

-- the end moves past white space
pub trimmed_at_space : (text : List ℕ) (end : ℕ) → 0 < end → end ≤ length text → is_space (get_or text (end - 1) 0) ≡ true
    → trimmed (take end text) ≡ trimmed (take (end - 1) text)
trimmed_at_space text end some fits space =
    ap trimmed (take_before text end some fits) ∙ trimmed-space (take (end - 1) text) (get_or text (end - 1) 0) space

-- the end stays at another byte
pub trimmed_at_ink : (text : List ℕ) (end : ℕ) → 0 < end → end ≤ length text → is_space (get_or text (end - 1) 0) ≡ false
    → trimmed (take end text) ≡ take end text
trimmed_at_ink text end some fits ink =
    ap trimmed (take_before text end some fits) ∙ trimmed-ink (take (end - 1) text) (get_or text (end - 1) 0) ink
    ∙ sym (take_before text end some fits)

-- ---- The next word

-- where white space is all that is left, there is no word
pub no_word : (text rest : List ℕ) → rest ≡ drop (prefix_len is_space text) text → true ≡ nat_eq (length rest) 0 → words_of text ≡ []
no_word text rest rest_is none = sym (skip_space text).0 ∙ ap words_of (sym rest_is) ∙ ap words_of (is_nothing rest none)
  where
    is_nothing : (rest : List ℕ) → true ≡ nat_eq (length rest) 0 → rest ≡ []
    is_nothing [] none = refl
    is_nothing (c ∷ cs) none = absurd (grind (arith, nat_tests, none))

-- else the word that is split off is the next
pub next_word_is : (text rest : List ℕ) (n : ℕ) → rest ≡ drop (prefix_len is_space text) text → false ≡ nat_eq (length rest) 0
    → n ≡ prefix_len is_ink rest → (words_of text ≡ take n rest ∷ words_of (drop n rest)) × (0 < n) × (0 < length rest)
next_word_is text rest n rest_is more n_is =
    let ink : BeginsWithInk rest = subst BeginsWithInk (sym rest_is) (skip_space text).1 in
    let some : 0 < length rest = some_from_test rest more in
    let word : (words_of rest ≡ take (prefix_len is_ink rest) rest ∷ words_of (drop (prefix_len is_ink rest) rest))
    × (0 < prefix_len is_ink rest) = word_in_front rest ink some in (
      sym (skip_space text).0 ∙ ap words_of (sym rest_is) ∙ word.0 ∙ ap (λ m. take m rest ∷ words_of (drop m rest)) (sym n_is),
      omega (arith, word.1),
      some,
    )
