-- Lists of tags, each of which is one element's.
use Rattle.std.proofs.Common.{◌≡◌, ℕ, zero, suc, ◌≤◌, true, false, cond, List, [], ◌∷◌, ◌++◌, length, set, slice_get, nat_eq, Some, refl, sym, ap, ◌∙◌, arith}
use Rattle.std.proofs.lemmas.Bool.Decides.{nat_tests, Decides-eqb}
use Rattle.std.proofs.lemmas.Option.{slice_get_past}
use Rattle.map_tables.specs.Kept.{Tag}
use Rattle.map_tables.specs.Rows.{own_tags, tags_in, IsOwn, KeepsOthers}
use Rattle.map_tables.proofs.ListLemmas.{one_item}

-- a list that is another's has no tags for the element at a place
own_tags-other : (place : ℕ) (own : ℕ × List Tag) → (own.0 ≡ place → ⊥) → own_tags place (Some own) ≡ []
own_tags-other place own other =
    let test : nat_eq own.0 place ≡ false = grind (arith, nat_tests, other) in
    ap (λ b. cond b own.1 []) test

-- one that is its own has them
pub tags_in-own : (lists : List (ℕ × List Tag)) (place list : ℕ) (tags : List Tag)
    → slice_get lists list ≡ Some (place, tags) → tags_in lists place list ≡ tags
tags_in-own lists place list tags is =
    let test : nat_eq place place ≡ true = grind (arith, nat_tests) in
    ap (own_tags place) is ∙ ap (λ b. cond b tags []) test

-- beyond the lists there are no tags
pub tags_in-past : (lists : List (ℕ × List Tag)) (place list : ℕ) → length lists ≤ list → tags_in lists place list ≡ []
tags_in-past lists place list past = ap (own_tags place) (slice_get_past lists list past)

-- a list that names the element's place is its own
pub IsOwn-read : (lists : List (ℕ × List Tag)) (place list : ℕ) (own : ℕ × List Tag) → slice_get lists list ≡ Some own
    → nat_eq own.0 place ≡ true → IsOwn lists place list
IsOwn-read lists place list own is test =
    record { tags = own.1; is = is ∙ ap (λ n. Some (n, own.1)) ((Decides-eqb own.0 place).0 test) }

-- one that names another has no tags for it
pub tags_in-read : (lists : List (ℕ × List Tag)) (place list : ℕ) (own : ℕ × List Tag) → slice_get lists list ≡ Some own
    → nat_eq own.0 place ≡ false → tags_in lists place list ≡ []
tags_in-read lists place list own is test = ap (own_tags place) is ∙ ap (λ b. cond b own.1 []) test

-- a list at the end is found there
pub tags_in-last : (lists : List (ℕ × List Tag)) (place : ℕ) (tags : List Tag)
    → tags_in (lists ++ (place, tags) ∷ []) place (length lists) ≡ tags
tags_in-last [] place tags = tags_in-own ((place, tags) ∷ []) place 0 tags refl
tags_in-last (own ∷ lists) place tags = tags_in-last lists place tags

-- and the other elements keep their tags
pub KeepsOthers-append : (lists : List (ℕ × List Tag)) (place : ℕ) (tags : List Tag)
    → KeepsOthers place lists (lists ++ (place, tags) ∷ [])
KeepsOthers-append [] place tags other zero apart = own_tags-other other (place, tags) (λ same. apart (sym same))
KeepsOthers-append [] place tags other (suc list) apart = refl
KeepsOthers-append (own ∷ lists) place tags other zero apart = refl
KeepsOthers-append (own ∷ lists) place tags other (suc list) apart = KeepsOthers-append lists place tags other list apart

-- other tags in an element's own list are found there
pub tags_in-set : (lists : List (ℕ × List Tag)) (place list : ℕ) (tags next : List Tag)
    → slice_get lists list ≡ Some (place, tags) → tags_in (set lists list (place, next)) place list ≡ next
tags_in-set [] place list tags next is = absurd cc
tags_in-set (own ∷ lists) place zero tags next is = tags_in-own ((place, next) ∷ lists) place 0 next refl
tags_in-set (own ∷ lists) place (suc list) tags next is = tags_in-set lists place list tags next is

-- and the other elements keep theirs
pub KeepsOthers-set : (lists : List (ℕ × List Tag)) (place list : ℕ) (tags next : List Tag)
    → slice_get lists list ≡ Some (place, tags) → KeepsOthers place lists (set lists list (place, next))
KeepsOthers-set [] place list tags next is other n apart = absurd cc
KeepsOthers-set (own ∷ lists) place zero tags next is other zero apart =
    own_tags-other other (place, next) (λ same. apart (sym same))
    ∙ sym (ap (λ (o : ℕ × List Tag). own_tags other (Some o)) (one_item is)
    ∙ own_tags-other other (place, tags) (λ same. apart (sym same)))
KeepsOthers-set (own ∷ lists) place zero tags next is other (suc n) apart = refl
KeepsOthers-set (own ∷ lists) place (suc list) tags next is other zero apart = refl
KeepsOthers-set (own ∷ lists) place (suc list) tags next is other (suc n) apart =
    KeepsOthers-set lists place list tags next is other n apart
