-- How links are laid while the ways are gone through.
use Rattle.std.proofs.Common.{◌≡◌, ℕ, ℤ, pos, zero, suc, ◌+◌, ◌-◌, ◌<◌, ◌≤◌, true, false, ◌⊎◌, inl, inr, List, [], ◌∷◌, ◌++◌, length, get_or, drop, slice_get, Option, Some, None, option_map, is_some, refl, sym, ap, ◌∙◌, arith, eq-eqb, append_assoc}
use Rattle.std.specs.Ordering.{int_eq}
use Rattle.std.proofs.lemmas.Bool.{ne_eqb, cases_eq, cases_Bool}
use Rattle.std.proofs.lemmas.List.{drop_more, drop_all}
use Rattle.std.proofs.lemmas.Option.{slice_get-get_or}
use Rattle.geo_int.specs.Place.{Place}
use Rattle.geo_int.specs.Arrow.{arrow_between}
use Rattle.geo_int.specs.declared.offsets.Arrow.{Arrow}
use Rattle.map_tables.specs.Kept.{Kept, place_of_id, AreDistinct}
use Rattle.map_tables.specs.declared.error.MapError.{MapError}
use Rattle.map_tables.specs.declared.error.MapError.TheVariants.{MissingNode, NoMemory}
use Rattle.map_tables.proofs.CallerLemmas.{int_eq-refl, same_number}
use Rattle.overpass_graph.specs.declared.link.Link.{Link}
use Rattle.overpass_graph.specs.Laying.{links_at, links_up_to, links_left}
use Rattle.overpass_graph.specs.Links.{both_ways, links_of_segment, links_along, missing_in, missing_or, first_missing, missing_fault}
use Rattle.overpass_graph.specs.Maps.{node_at, no_node, way_at, no_way}
use Rattle.overpass_graph.specs.Orders.{IsNodeOrder, picked}
use Rattle.overpass_graph.proofs.NodeLemmas.{found-at, picked-get, number_found}

-- ---- A segment

-- a segment between two nodes with an arrow makes links both ways
pub links_at-both : (nodes : List (Kept Place)) (numbers : List ℕ) (way segment a b : ℕ) (o : Option Arrow) (p q : Place) →
    a < length nodes → b < length nodes → (a ≡ b → ⊥) →
    ((k : Kept Place) → slice_get nodes a ≡ Some k → p ≡ k.content) → ((k : Kept Place) → slice_get nodes b ≡ Some k → q ≡ k.content) →
    o ≡ arrow_between p q → true ≡ is_some o →
    links_at nodes numbers way segment a b ≡ both_ways way segment (get_or numbers a 0) (get_or numbers b 0)
links_at-both nodes numbers way segment a b o p q a_in b_in apart p_is q_is arrow some =
    let at_a = slice_get-get_or nodes a no_node a_in in
    let at_b = slice_get-get_or nodes b no_node b_in in
    let there : is_some (arrow_between (node_at nodes a).content (node_at nodes b).content) ≡ true =
    ap is_some (ap (λ x. arrow_between x (node_at nodes b).content) (sym (p_is (node_at nodes a) at_a))
    ∙ ap (arrow_between p) (sym (q_is (node_at nodes b) at_b)) ∙ sym arrow) ∙ sym some in
    rw (ne_eqb a b apart, at_a, at_b, there) refl

-- a segment by the places of its nodes in the text makes the links that it makes by their ids
segment-same : (nodes : List (Kept Place)) (places numbers : List ℕ) → AreDistinct nodes → IsNodeOrder nodes places numbers →
    (way segment : ℕ) (x y : ℤ) (a b : ℕ) → place_of_id x nodes ≡ Some a → place_of_id y nodes ≡ Some b →
    links_of_segment (picked nodes places) way segment x y ≡ links_at nodes numbers way segment a b
unfolding links_of_segment
segment-same nodes places numbers distinct order way segment x y a b x_at y_at =
    let here = found-at nodes x a x_at in
    let there = found-at nodes y b y_at in
    elim (cases_eq a b) [
      | inl same ↦
          let ids : x ≡ y = sym here.1 ∙ ap (λ p. (node_at nodes p).id) same ∙ there.1 in
          rw (ids, int_eq-refl y, eq-eqb a b same) refl
      | inr apart ↦
          let other : int_eq x y ≡ false = elim (cases_Bool (int_eq x y)) [
            | inl yes_ ↦ absurd (apart (one (sym x_at ∙ ap (λ i. place_of_id i nodes) (same_number x y yes_) ∙ y_at)))
            | inr no_ ↦ no_
          ] in
          let number_x : place_of_id x (picked nodes places) ≡ Some (get_or numbers a 0) =
          number_found nodes places numbers distinct order x ∙ ap (option_map (λ p. get_or numbers p 0)) x_at in
          let number_y : place_of_id y (picked nodes places) ≡ Some (get_or numbers b 0) =
          number_found nodes places numbers distinct order y ∙ ap (option_map (λ p. get_or numbers p 0)) y_at in
          rw (
            other,
            number_x,
            number_y,
            picked-get nodes places numbers order a here.0,
            picked-get nodes places numbers order b there.0,
            ne_eqb a b apart,
          ) refl
    ]
  where
    one : Some a ≡ Some b → a ≡ b
    one e = cc

-- ---- A way

-- the links that are left are those of the segment that ends here and those behind it
links_left-step : (nodes : List (Kept Place)) (places numbers : List ℕ) → AreDistinct nodes → IsNodeOrder nodes places numbers →
    (way : ℕ) (ids : List ℤ) (i last node : ℕ) → i < length ids → (0 < i → place_of_id (get_or ids (i - 1) (pos 0)) nodes ≡ Some last) →
    place_of_id (get_or ids i (pos 0)) nodes ≡ Some node →
    links_left (picked nodes places) way ids i ≡ links_up_to nodes numbers way i last node ++
    links_left (picked nodes places) way ids (i + 1)
links_left-step nodes places numbers distinct order way [] zero last node below before here = absurd (omega arith)
links_left-step nodes places numbers distinct order way (x ∷ ids) zero last node below before here = refl
links_left-step nodes places numbers distinct order way ids (suc j) last node below before here =
    let e : suc j + 1 ≡ suc (suc j) = omega arith in
    let back : suc j - 1 ≡ j = omega arith in
    let found : place_of_id (get_or ids j (pos 0)) nodes ≡ Some last = ap (λ k. place_of_id (get_or ids k (pos 0)) nodes) (sym back)
    ∙ before (omega arith) in
    let front : drop (suc j) ids ≡ get_or ids (suc j) (pos 0) ∷ drop (suc (suc j)) ids = drop_more ids (suc j) (pos 0) below
    ∙ ap (λ n. get_or ids (suc j) (pos 0) ∷ drop n ids) e in
    let segment = segment-same nodes places numbers distinct order way j (get_or ids j (pos 0)) (get_or ids (suc j) (pos 0)) last node found
    here in
    ap (links_along (picked nodes places) way j (get_or ids j (pos 0))) front
    ∙ ap (λ ls. ls ++ links_along (picked nodes places) way (suc j) (get_or ids (suc j) (pos 0)) (drop (suc (suc j)) ids)) segment
    ∙ ap (λ n. links_at nodes numbers way j last node ++ links_left (picked nodes places) way ids n) (sym e)

-- at the end of a way no links are left
pub links_left-end : (nodes : List (Kept Place)) (way : ℕ) (ids : List ℤ) (i : ℕ) → length ids ≤ i → links_left nodes way ids i ≡ []
links_left-end nodes way [] zero past = refl
links_left-end nodes way (x ∷ ids) zero past = absurd (omega arith)
links_left-end nodes way ids (suc j) past = ap (links_along nodes way j (get_or ids j (pos 0))) (drop_all (suc j) ids past)

-- what is laid and what is left stay all links together
pub links-step : (nodes : List (Kept Place)) (places numbers : List ℕ) → AreDistinct nodes → IsNodeOrder nodes places numbers →
    (way : ℕ) (ids : List ℤ) (i last node : ℕ) (old new whole : List Link) → i < length ids →
    (0 < i → place_of_id (get_or ids (i - 1) (pos 0)) nodes ≡ Some last) → place_of_id (get_or ids i (pos 0)) nodes ≡ Some node →
    new ≡ old ++ links_up_to nodes numbers way i last node → old ++ links_left (picked nodes places) way ids i ≡ whole →
    new ++ links_left (picked nodes places) way ids (i + 1) ≡ whole
links-step nodes places numbers distinct order way ids i last node old new whole below before here laid left =
    rw laid (append_assoc old (links_up_to nodes numbers way i last node) (links_left (picked nodes places) way ids (i + 1)))
    ∙ ap (λ ls. old ++ ls) (sym (links_left-step nodes places numbers distinct order way ids i last node below before here)) ∙ left

-- a node that is there leaves the missing ones to those behind it
pub missing-step : (nodes : List (Kept Place)) (ids : List ℤ) (i node : ℕ) → i < length ids →
    place_of_id (get_or ids i (pos 0)) nodes ≡ Some node →
    missing_in nodes (drop i ids) ≡ missing_in nodes (drop (i + 1) ids)
missing-step nodes ids i node below here = rw (drop_more ids i (pos 0) below, here) refl

-- a node that isn't there is missing
pub missing-here : (nodes : List (Kept Place)) (ids : List ℤ) (i : ℕ) → i < length ids → place_of_id (get_or ids i (pos 0)) nodes ≡ None →
    missing_in nodes (drop i ids) ≡ Some (get_or ids i (pos 0))
missing-here nodes ids i below here = rw (drop_more ids i (pos 0) below, here) refl

-- behind the end none is missing
pub missing-end : (nodes : List (Kept Place)) (ids : List ℤ) (i : ℕ) → length ids ≤ i → missing_in nodes (drop i ids) ≡ None
missing-end nodes ids i past = rw (drop_all i ids past) refl

-- ---- The ways

-- nothing isn't something
none_some : {x : MapError} → None ≡ Some x → ⊥
none_some h = cc

-- the missing node of a way is the first one, where none was missing before
pub way-missing : (nodes : List (Kept Place)) (ways : List (Kept (List ℤ))) (w : ℕ) (e : MapError) → w < length ways →
    first_missing nodes (drop w ways) ≡ first_missing nodes ways →
    (e ≡ NoMemory) ⊎ (option_map (MissingNode (way_at ways w).id) (missing_in nodes (way_at ways w).content) ≡ Some e) →
    (e ≡ NoMemory) ⊎ (missing_fault (first_missing nodes ways) ≡ Some e)
way-missing nodes ways w e below none (inl memory) = inl memory
way-missing nodes ways w e below none (inr missing) =
    inr (ap missing_fault (sym none ∙ ap (first_missing nodes) (drop_more ways w no_way below))
    ∙ by_node (missing_in nodes (way_at ways w).content) missing)
  where
    by_node : (o : Option ℤ) → option_map (MissingNode (way_at ways w).id) o ≡ Some e →
        missing_fault (missing_or (way_at ways w).id o (first_missing nodes (drop (w + 1) ways))) ≡ Some e
    by_node None missing = absurd (none_some missing)
    by_node (Some id) missing = missing
