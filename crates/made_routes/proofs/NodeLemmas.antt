-- Lists of nodes that ascend and have the same nodes are one.
use Rattle.std.proofs.Common.{◌≡◌, ◌↔◌, ◌⊎◌, inl, inr, zero, suc, ℤ, List, [], ◌∷◌, refl, sym, ap, ◌∙◌, subst, arith}
use lib.Signed.{◌<ℤ◌}
use Rattle.std.specs.List.{Contains}
use Rattle.std.proofs.lemmas.Int.{ints}
use Rattle.std.proofs.lemmas.List.{get_or_default}
use Rattle.geo_int.specs.Place.{Place}
use Rattle.map_tables.specs.Kept.{Kept}
use Rattle.overpass_graph.specs.Maps.{AreAscending, no_node, node_at}

-- two numbers aren't each below the other
not-both : (x y : ℤ) → x <ℤ y → y <ℤ x → ⊥
not-both x y less more = omega (arith, ints, less, more)

-- a node behind the first has a greater id
behind-first : (x : Kept Place) (xs : List (Kept Place)) → AreAscending (x ∷ xs) → (z : Kept Place) → Contains xs z → x.id <ℤ z.id
behind-first x xs ascending z has =
    let is : node_at xs has.0 ≡ z = get_or_default xs has.0 no_node z has.1 ∙ has.2 in
    subst (λ (n : Kept Place). x.id <ℤ n.id) is (ascending 0 (suc has.0) (omega arith) (omega (arith, has.1)))

-- nodes behind the first ascend
ascending-behind : (x : Kept Place) (xs : List (Kept Place)) → AreAscending (x ∷ xs) → AreAscending xs
ascending-behind x xs ascending i j less within = ascending (suc i) (suc j) (omega (arith, less)) (omega (arith, within))

-- a node of a list is its first or stands behind it
first-or-behind : (x : Kept Place) (xs : List (Kept Place)) (z : Kept Place) → Contains (x ∷ xs) z → (x ≡ z) ⊎ Contains xs z
first-or-behind x xs z (zero, within, is) = inl is
first-or-behind x xs z (suc k, within, is) = inr (k, omega (arith, within), is)

-- the first stands in its list
has-first : (x : Kept Place) (xs : List (Kept Place)) → Contains (x ∷ xs) x
has-first x xs = (zero, omega arith, refl)

-- so do those behind it
has-behind : (x : Kept Place) (xs : List (Kept Place)) (z : Kept Place) → Contains xs z → Contains (x ∷ xs) z
has-behind x xs z has = (suc has.0, omega (arith, has.1), has.2)

-- no node stands in no list
has-none : (z : Kept Place) → Contains [] z → ⊥
has-none z has = omega (arith, has.1)

-- each node of the one list is in the other
Within : List (Kept Place) → List (Kept Place) → Type 0
Within xs ys = (z : Kept Place) → Contains xs z → Contains ys z

-- the first of two such lists is the same
first-same : (x y : Kept Place) (xs ys : List (Kept Place)) → AreAscending (x ∷ xs) → AreAscending (y ∷ ys) →
    Within (x ∷ xs) (y ∷ ys) → Within (y ∷ ys) (x ∷ xs) → y ≡ x
unfolding Within
first-same x y xs ys up down forth back =
    elim (first-or-behind y ys x (forth x (has-first x xs))) [
      | inl same ↦ same
      | inr later ↦ elim (first-or-behind x xs y (back y (has-first y ys))) [
        | inl same ↦ sym same
        | inr other ↦ absurd (not-both x.id y.id (behind-first x xs up y other) (behind-first y ys down x later))
      ]
    ]

-- behind the first they have the same nodes
behind-within : (x y : Kept Place) (xs ys : List (Kept Place)) → AreAscending (x ∷ xs) → y ≡ x → Within (x ∷ xs) (y ∷ ys) → Within xs ys
unfolding Within
behind-within x y xs ys up same forth z has =
    elim (first-or-behind y ys z (forth z (has-behind x xs z has))) [
      | inl is ↦
          let less : x.id <ℤ z.id = behind-first x xs up z has in
          let equal : x.id ≡ z.id = ap (λ (n : Kept Place). n.id) (sym same ∙ is) in
          absurd (not-both x.id z.id less (subst (λ i. i <ℤ x.id) equal (subst (λ i. x.id <ℤ i) (sym equal) less)))
      | inr later ↦ later
    ]

-- lists that ascend and have the same nodes are one
ascending-same : (xs ys : List (Kept Place)) → AreAscending xs → AreAscending ys → Within xs ys → Within ys xs → ys ≡ xs
unfolding Within
ascending-same [] [] up down forth back = refl
ascending-same [] (y ∷ ys) up down forth back = absurd (has-none y (back y (has-first y ys)))
ascending-same (x ∷ xs) [] up down forth back = absurd (has-none x (forth x (has-first x xs)))
ascending-same (x ∷ xs) (y ∷ ys) up down forth back =
    let same : y ≡ x = first-same x y xs ys up down forth back in
    let rest : ys ≡ xs =
    ascending-same xs ys (ascending-behind x xs up) (ascending-behind y ys down) (behind-within x y xs ys up same forth)
    (behind-within y x ys xs down (sym same) back) in
    ap (λ (n : Kept Place). n ∷ ys) same ∙ ap (λ (ns : List (Kept Place)). x ∷ ns) rest

-- the same by both directions at once
pub same-nodes : (xs ys : List (Kept Place)) → AreAscending xs → AreAscending ys →
    ((z : Kept Place) → Contains xs z ↔ Contains ys z) → ys ≡ xs
unfolding Within
same-nodes xs ys up down both = ascending-same xs ys up down (λ z. (both z).0) (λ z. (both z).1)
