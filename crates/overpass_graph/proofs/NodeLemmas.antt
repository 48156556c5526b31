-- Nodes by ascending id, and where an id stands among them.
use Rattle.std.proofs.Common.{◌≡◌, ℕ, ℤ, zero, suc, ◌<◌, cond, inl, inr, ◌↔◌, List, [], ◌∷◌, length, get_or, slice_get, Option, Some, None, option_map, refl, sym, ap, ◌∙◌, subst, arith}
use lib.Signed.{◌<ℤ◌}
use Rattle.std.specs.Ordering.{int_eq}
use Rattle.std.specs.List.{Contains}
use Rattle.std.proofs.lemmas.Bool.{cases_Bool}
use Rattle.std.proofs.lemmas.List.{get_or-map, length-map, get_or_default}
use Rattle.std.proofs.lemmas.Option.{slice_get-get_or, slice_get_within, same_Some}
use Rattle.geo_int.specs.Place.{Place}
use Rattle.map_tables.specs.Kept.{Kept, place_of_id, ids_of, AreDistinct}
use Rattle.map_tables.proofs.CallerLemmas.{int_eq-refl, same_number, place_in-at, place_in-own}
use Rattle.overpass_graph.specs.declared.order.NodeId.{NodeId}
use Rattle.overpass_graph.specs.Maps.{node_at, no_node, AreAscending}
use Rattle.overpass_graph.specs.Orders.{row_at, AreAsPlaced, IsOrderOf, AreRowsOf, IsNodeOrder, picked}
use Rattle.overpass_graph.proofs.OrderLemmas.{not_below_itself}

-- ---- Ids among nodes

-- there are as many ids as nodes
length-ids : {C : Type 0} (ks : List (Kept C)) → length (ids_of ks) ≡ length ks
length-ids [] = refl
length-ids (k ∷ ks) = ap suc (length-ids ks)

-- the id at a place is that of the node there
ids-at : (nodes : List (Kept Place)) (k : ℕ) → k < length nodes → slice_get (ids_of nodes) k ≡ Some (node_at nodes k).id
ids-at [] k below = absurd (omega arith)
ids-at (n ∷ nodes) zero below = refl
ids-at (n ∷ nodes) (suc k) below = ids-at nodes k (omega arith)

-- where an id is found, the node has it
pub found-at : (nodes : List (Kept Place)) (id : ℤ) (p : ℕ) → place_of_id id nodes ≡ Some p →
    (p < length nodes) × ((node_at nodes p).id ≡ id)
found-at nodes id p found =
    let at = place_in-at (ids_of nodes) id p found in
    let below : p < length nodes = omega (arith, slice_get_within (ids_of nodes) p id at, length-ids nodes) in
    (below, same_Some _ _ (sym (ids-at nodes p below) ∙ at))

-- where ids are distinct, a node is found by its id
pub found-own : (nodes : List (Kept Place)) (p : ℕ) → AreDistinct nodes → p < length nodes → place_of_id (node_at nodes p).id nodes ≡ Some p
found-own nodes p distinct below = place_in-own (ids_of nodes) (node_at nodes p).id p distinct (ids-at nodes p below)

-- where ids ascend, a node is found by its id
pub found-ascending : (nodes : List (Kept Place)) (k : ℕ) (id : ℤ) → AreAscending nodes → k < length nodes → (node_at nodes k).id ≡ id →
    place_of_id id nodes ≡ Some k
found-ascending [] k id rising below same = absurd (omega arith)
found-ascending (n ∷ nodes) zero id rising below same =
    ap (λ b. cond b (Some 0) (option_map suc (place_of_id id nodes))) (ap (λ x. int_eq x id) same ∙ int_eq-refl id)
found-ascending (n ∷ nodes) (suc k) id rising below same =
    let rest = found-ascending nodes k id (λ i j before within. rising (suc i) (suc j) (omega arith) (omega arith)) (omega arith) same in
    let lower : n.id <ℤ id = let h = rising 0 (suc k) (omega arith) below in subst (λ (x : ℤ). n.id <ℤ x) same h in
    elim (cases_Bool (int_eq n.id id)) [
      | inl yes_ ↦ absurd (not_below_itself n.id id lower (same_number n.id id yes_))
      | inr other ↦ ap (λ b. cond b (Some 0) (option_map suc (place_of_id id nodes))) other ∙ ap (option_map suc) rest
    ]

-- ---- The order of nodes

-- rows of nodes stand at their places
pub rows-placed : (nodes : List (Kept Place)) (rows : List NodeId) → AreRowsOf nodes rows → AreAsPlaced rows
rows-placed nodes rows are k below = ap (λ (r : NodeId). r.place) (are.row k (omega (arith, are.length_is)))

-- the order of rows is that of their nodes
pub order-of_nodes : (nodes : List (Kept Place)) (rows : List NodeId) (places numbers : List ℕ) → AreRowsOf nodes rows →
    IsOrderOf rows places numbers →
    IsNodeOrder nodes places numbers
order-of_nodes nodes rows places numbers are order =
    let size = are.length_is in
    let id_is : (k : ℕ) → k < length nodes →
    (row_at rows k).id ≡ (node_at nodes k).id = λ k below. ap (λ (r : NodeId). r.id) (are.row k below) in
    record {
      places_length = order.places_length ∙ size;
      numbers_length = order.numbers_length ∙ size;
      place_in = λ k below. let h = order.place_in k (omega (arith, size)) in omega (arith, size, h);
      number_in = λ p below. let h = order.number_in p (omega (arith, size)) in omega (arith, size, h);
      there = λ k below. order.there k (omega (arith, size));
      back = λ p below. order.back p (omega (arith, size));
      rising = λ i j before within.
          let i_in : get_or places i 0 < length nodes = let h = order.place_in i (omega (arith, size)) in omega (arith, size, h) in
          let j_in : get_or places j 0 < length nodes = let h = order.place_in j (omega (arith, size)) in omega (arith, size, h) in
          rw (← id_is (get_or places i 0) i_in, ← id_is (get_or places j 0) j_in) (order.rising i j before (omega (arith, size)));
    }

-- there are as many nodes in the order
pub picked-length : (nodes : List (Kept Place)) (places numbers : List ℕ) → IsNodeOrder nodes places numbers →
    length (picked nodes places) ≡ length nodes
picked-length nodes places numbers order = length-map places (node_at nodes) ∙ order.places_length

-- a node in the order is that at its place
pub picked-at : (nodes : List (Kept Place)) (places numbers : List ℕ) → IsNodeOrder nodes places numbers → (k : ℕ) → k < length nodes →
    node_at (picked nodes places) k ≡ node_at nodes (get_or places k 0)
picked-at nodes places numbers order k below = get_or-map (node_at nodes) places k 0 no_node (omega (arith, order.places_length))

-- a node has its number in the order
pub picked-number : (nodes : List (Kept Place)) (places numbers : List ℕ) → IsNodeOrder nodes places numbers → (p : ℕ) → p < length nodes →
    node_at (picked nodes places) (get_or numbers p 0) ≡ node_at nodes p
picked-number nodes places numbers order p below =
    picked-at nodes places numbers order (get_or numbers p 0) (order.number_in p below) ∙ ap (node_at nodes) (order.back p below)

-- the same by what a place holds
pub picked-get : (nodes : List (Kept Place)) (places numbers : List ℕ) → IsNodeOrder nodes places numbers → (p : ℕ) → p < length nodes →
    slice_get (picked nodes places) (get_or numbers p 0) ≡ slice_get nodes p
picked-get nodes places numbers order p below =
    slice_get-get_or (picked nodes places) (get_or numbers p 0) no_node
    (omega (arith, order.number_in p below, picked-length nodes places numbers order))
    ∙ ap Some (picked-number nodes places numbers order p below) ∙ sym (slice_get-get_or nodes p no_node below)

-- ids ascend in the order
pub picked-ascending : (nodes : List (Kept Place)) (places numbers : List ℕ) → IsNodeOrder nodes places numbers →
    AreAscending (picked nodes places)
picked-ascending nodes places numbers order i j before within =
    let j_in : j < length nodes = omega (arith, picked-length nodes places numbers order) in
    let i_in : i < length nodes = omega arith in
    rw (picked-at nodes places numbers order i i_in, picked-at nodes places numbers order j j_in) (order.rising i j before j_in)

-- the same nodes stand in the order
pub picked-same : (nodes : List (Kept Place)) (places numbers : List ℕ) → IsNodeOrder nodes places numbers → (node : Kept Place) →
    Contains nodes node ↔ Contains (picked nodes places) node
picked-same nodes places numbers order node = (
  (λ has.
      let p_in : has.0 < length nodes = has.1 in
      let n_in : get_or numbers has.0 0 < length (picked nodes places) =
      omega (arith, order.number_in has.0 p_in, picked-length nodes places numbers order) in (
        get_or numbers has.0 0,
        n_in,
        get_or_default (picked nodes places) (get_or numbers has.0 0) _ no_node n_in
            ∙ picked-number nodes places numbers order has.0 p_in ∙ get_or_default nodes has.0 no_node _ p_in ∙ has.2,
      )),
  (λ has.
      let k_in : has.0 < length nodes = omega (arith, has.1, picked-length nodes places numbers order) in
      let p_in = order.place_in has.0 k_in in (
        get_or places has.0 0,
        p_in,
        get_or_default nodes (get_or places has.0 0) _ no_node p_in
            ∙ sym (picked-at nodes places numbers order has.0 k_in) ∙ get_or_default (picked nodes places) has.0 no_node _ has.1 ∙ has.2,
      )),
)

-- something isn't nothing
some_none : {x : ℕ} → Some x ≡ None → ⊥
some_none e = cc

-- a number among the nodes in the order, by the place where an id is found
pub number_found : (nodes : List (Kept Place)) (places numbers : List ℕ) → AreDistinct nodes → IsNodeOrder nodes places numbers → (id : ℤ) →
    place_of_id id (picked nodes places) ≡ option_map (λ p. get_or numbers p 0) (place_of_id id nodes)
number_found nodes places numbers distinct order id = by_place (place_of_id id nodes) refl
  where
    by_place : (o : Option ℕ) → place_of_id id nodes ≡ o → place_of_id id (picked nodes places) ≡ option_map (λ p. get_or numbers p 0) o
    by_place (Some p) found =
        let at = found-at nodes id p found in
        found-ascending (picked nodes places) (get_or numbers p 0) id (picked-ascending nodes places numbers order)
        (omega (arith, order.number_in p at.0, picked-length nodes places numbers order))
        (ap (λ (n : Kept Place). n.id) (picked-number nodes places numbers order p at.0) ∙ at.1)
    by_place None missing = by_number (place_of_id id (picked nodes places)) refl
      where
        by_number : (o : Option ℕ) → place_of_id id (picked nodes places) ≡ o → o ≡ None
        by_number None none = refl
        by_number (Some k) found =
            let at = found-at (picked nodes places) id k found in
            let k_in : k < length nodes = omega (arith, at.0, picked-length nodes places numbers order) in
            let same : (node_at nodes (get_or places k 0)).id ≡ id =
            ap (λ (n : Kept Place). n.id) (sym (picked-at nodes places numbers order k k_in)) ∙ at.1 in
            let own = found-own nodes (get_or places k 0) distinct (order.place_in k k_in) in
            absurd (some_none (sym own ∙ ap (λ i. place_of_id i nodes) same ∙ missing))
