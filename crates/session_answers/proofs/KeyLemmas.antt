-- Keys that compare equal are one key, and one key compares equal.
use Rattle.std.proofs.Common.{◌≡◌, ℕ, ℤ, Bool, true, ◌&&◌, nat_eq, List, [], ◌∷◌, refl, sym, subst}
use Rattle.session_answers.specs.declared.key.Key.{Key}
use Rattle.std.specs.Cmp.{first_so, second_so, signed_Decides}
use Rattle.std.specs.Cmp.Lexicographic.{same_text}
use Rattle.std.specs.Ordering.{int_eq}
use lib.Pointwise.{pointwise}
use Rattle.std.proofs.lemmas.Bool.{eqb-true}
use Rattle.std.proofs.lemmas.Cmp.{int_eq_equiv, nat_eq_equiv, nat_list_eq_equiv}
use Rattle.std.specs.Cmp.Derive.{both_true}

-- overrides, compared by name and number
abbrev item_eq : List ℕ × ℤ → List ℕ × ℤ → Bool
item_eq a b = pointwise nat_eq a.0 b.0 && int_eq a.1 b.1

item-same : (a b : List ℕ × ℤ) → item_eq a b ≡ true → a ≡ b
item-same a b h =
    let name : a.0 ≡ b.0 = same_text a.0 b.0 (sym (first_so (pointwise nat_eq a.0 b.0) (int_eq a.1 b.1) h)) in
    let number : a.1 ≡ b.1 = (signed_Decides a.1 b.1).0 (second_so (pointwise nat_eq a.0 b.0) (int_eq a.1 b.1) h) in
    λ i. (name i, number i)

items-same : (a b : List (List ℕ × ℤ)) → pointwise item_eq a b ≡ true → a ≡ b
items-same [] [] h = refl
items-same [] (y ∷ b) h = cc
items-same (x ∷ a) [] h = cc
items-same (x ∷ a) (y ∷ b) h =
    let head : x ≡ y = item-same x y (first_so (item_eq x y) (pointwise item_eq a b) h) in
    let rest : a ≡ b = items-same a b (second_so (item_eq x y) (pointwise item_eq a b) h) in
    λ i. head i ∷ rest i

pub key-same : (a b : Key) → (nat_eq a.place b.place && pointwise item_eq a.overrides b.overrides) ≡ true → a ≡ b
key-same a b h =
    let place : a.place ≡ b.place = eqb-true a.place b.place
    (first_so (nat_eq a.place b.place) (pointwise item_eq a.overrides b.overrides) h) in
    let overrides : a.overrides ≡ b.overrides =
    items-same a.overrides b.overrides (second_so (nat_eq a.place b.place) (pointwise item_eq a.overrides b.overrides) h) in
    λ i. record { place = place i; overrides = overrides i }

-- overrides compare equal to themselves
items-alike : (a : List (List ℕ × ℤ)) → pointwise item_eq a a ≡ true
items-alike [] = refl
items-alike (x ∷ a) = both_true (both_true (nat_list_eq_equiv.refl x.0) (int_eq_equiv.refl x.1)) (items-alike a)

-- and so do keys
pub same-key : (a b : Key) → a ≡ b → (nat_eq a.place b.place && pointwise item_eq a.overrides b.overrides) ≡ true
same-key a b same =
    subst (λ (k : Key). (nat_eq a.place k.place && pointwise item_eq a.overrides k.overrides) ≡ true) same
    (both_true (nat_eq_equiv.refl a.place) (items-alike a.overrides))
