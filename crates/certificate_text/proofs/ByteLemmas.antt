-- Texts without a byte, and texts cut at one.
use Rattle.std.proofs.Common.{◌≡◌, ℕ, suc, ◌+◌, ◌<◌, cond, not, inl, inr, List, [], ◌∷◌, ◌++◌, length, get_or, take, drop, refl, sym, ap, ◌∙◌, subst, arith, eq-eqb}
use Rattle.std.specs.List.{prefix_len}
use Rattle.std.proofs.lemmas.Bool.{ne_eqb, cases_eq}
use Rattle.std.proofs.lemmas.List.{take_at, length-append}
use Rattle.item_list.specs.Bytes.{is_other}
use Rattle.certificate_text.specs.Parts.{HasNo, Begins}

-- ---- Lists

-- the first items of equal lists
pub first-same : (x y : ℕ) (xs ys : List ℕ) → x ∷ xs ≡ y ∷ ys → x ≡ y
first-same x y xs ys same = ap (λ (t : List ℕ). get_or t 0 0) same

-- what follows the first items of equal lists
pub rest-same : (x y : ℕ) (xs ys : List ℕ) → x ∷ xs ≡ y ∷ ys → xs ≡ ys
rest-same x y xs ys same = ap (λ (t : List ℕ). drop 1 t) same

-- a list with an item isn't empty
pub some-none : (x : ℕ) (xs : List ℕ) → x ∷ xs ≡ [] → ⊥
some-none x xs same = absurd cc

-- ---- Texts without a byte

-- two texts without it, one behind the other
pub no-append : (c : ℕ) (xs ys : List ℕ) → HasNo c xs → HasNo c ys → HasNo c (xs ++ ys)
no-append c [] ys first second = second
no-append c (x ∷ xs) ys first second = (first.0, no-append c xs ys first.1 second)

-- a text with it has it
pub no-within : (c : ℕ) (xs ys : List ℕ) → HasNo c (xs ++ (c ∷ ys)) → ⊥
no-within c [] ys no_c = no_c.0 refl
no-within c (x ∷ xs) ys no_c = no-within c xs ys no_c.1

-- texts that are cut at the first such byte are cut alike
pub cut-same : (c : ℕ) (xs ys us vs : List ℕ) → HasNo c xs → HasNo c ys → xs ++ (c ∷ us) ≡ ys ++ (c ∷ vs) →
    (xs ≡ ys) × (us ≡ vs)
cut-same c [] [] us vs no_x no_y same = (refl, rest-same c c us vs same)
cut-same c [] (y ∷ ys) us vs no_x no_y same = absurd (no_y.0 (sym (first-same c y us (ys ++ (c ∷ vs)) same)))
cut-same c (x ∷ xs) [] us vs no_x no_y same = absurd (no_x.0 (first-same x c (xs ++ (c ∷ us)) vs same))
cut-same c (x ∷ xs) (y ∷ ys) us vs no_x no_y same =
    let rest = cut-same c xs ys us vs no_x.1 no_y.1 (rest-same x y (xs ++ (c ∷ us)) (ys ++ (c ∷ vs)) same) in
    let first : x ≡ y = first-same x y (xs ++ (c ∷ us)) (ys ++ (c ∷ vs)) same in
    (ap (λ n. n ∷ xs) first ∙ ap (λ t. y ∷ t) rest.0, rest.1)

-- so are texts that end there
pub word-same : (c : ℕ) (xs ys us vs : List ℕ) → HasNo c xs → HasNo c ys → Begins c us → Begins c vs → xs ++ us ≡ ys ++ vs →
    (xs ≡ ys) × (us ≡ vs)
word-same c [] [] us vs no_x no_y at_u at_v same = (refl, same)
word-same c [] (y ∷ ys) [] vs no_x no_y at_u at_v same = absurd (some-none y (ys ++ vs) (sym same))
word-same c [] (y ∷ ys) (u ∷ us) vs no_x no_y at_u at_v same =
    absurd (no_y.0 (sym (first-same u y us (ys ++ vs) same) ∙ at_u))
word-same c (x ∷ xs) [] us [] no_x no_y at_u at_v same = absurd (some-none x (xs ++ us) same)
word-same c (x ∷ xs) [] us (v ∷ vs) no_x no_y at_u at_v same =
    absurd (no_x.0 (first-same x v (xs ++ us) vs same ∙ at_v))
word-same c (x ∷ xs) (y ∷ ys) us vs no_x no_y at_u at_v same =
    let rest = word-same c xs ys us vs no_x.1 no_y.1 at_u at_v (rest-same x y (xs ++ us) (ys ++ vs) same) in
    let first : x ≡ y = first-same x y (xs ++ us) (ys ++ vs) same in
    (ap (λ n. n ∷ xs) first ∙ ap (λ t. y ∷ t) rest.0, rest.1)

-- ---- Where a text is cut

-- before the cut the byte isn't, behind it the text begins with it
pub cut-parts : (c : ℕ) (text : List ℕ) →
    HasNo c (take (prefix_len (is_other c) text) text) × Begins c (drop (prefix_len (is_other c) text) text)
cut-parts c [] = (tt, tt)
cut-parts c (x ∷ xs) =
    let rest = cut-parts c xs in
    elim (cases_eq x c) [
      | inl same ↦
          let none : prefix_len (is_other c) (x ∷ xs) ≡ 0 =
          ap (λ b. cond (not b) (1 + prefix_len (is_other c) xs) 0) (eq-eqb x c same) in
          subst (λ n. HasNo c (take n (x ∷ xs)) × Begins c (drop n (x ∷ xs))) (sym none) (tt, same)
      | inr other ↦
          let longer : prefix_len (is_other c) (x ∷ xs) ≡ suc (prefix_len (is_other c) xs) =
          ap (λ b. cond (not b) (1 + prefix_len (is_other c) xs) 0) (ne_eqb x c other) ∙ omega arith in
          subst (λ n. HasNo c (take n (x ∷ xs)) × Begins c (drop n (x ∷ xs))) (sym longer) ((other, rest.0), rest.1)
    ]

-- what a cut text is: nothing behind the cut, or the byte and more
pub cut-whole : (c : ℕ) (text front back rest : List ℕ) → Begins c back → text ≡ front ++ back → 0 < length back → rest ≡ drop 1 back →
    text ≡ front ++ (c ∷ rest)
cut-whole c text front [] rest at whole some rest_is = absurd (omega arith)
cut-whole c text front (b ∷ back) rest at whole some rest_is =
    whole ∙ ap (λ n. front ++ (n ∷ back)) at ∙ ap (λ t. front ++ (c ∷ t)) (sym rest_is)

-- a text that isn't cut has no such byte
pub uncut : (c : ℕ) (text front back : List ℕ) → HasNo c front → text ≡ front ++ back → length back ≡ 0 → HasNo c text
uncut c text front [] no_c whole none =
    subst (HasNo c) (sym whole) (no-append c front [] no_c tt)
uncut c text front (b ∷ back) no_c whole none = absurd (omega (arith, none))

-- ---- A word at the front

-- a shorter text has it not
pub behind-short : (text front : List ℕ) → length text < length front → (rest : List ℕ) → text ≡ front ++ rest → ⊥
behind-short text front short rest same = absurd (omega (arith, ap length same ∙ length-append front rest))

-- a text that begins otherwise has it not
pub behind-other : (text front own back : List ℕ) → text ≡ own ++ back → length own ≡ length front → (own ≡ front → ⊥) →
    (rest : List ℕ) → text ≡ front ++ rest → ⊥
behind-other text front own back whole size other rest same =
    other (sym (take_at own back (length front) size)
    ∙ ap (take (length front)) (sym whole ∙ same) ∙ take_at front rest (length front) refl)
