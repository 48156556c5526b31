-- What is known of each map that is made.
use Rattle.std.proofs.Common.{◌≡◌, ℕ, ℤ, zero, suc, ◌+◌, ◌*◌, ◌%◌, ◌<◌, Bool, true, false, cond, inl, inr, List, [], ◌∷◌, ◌++◌, length, get_or, slice_get, Option, Some, None, IsSome, refl, sym, ap, ◌∙◌, subst, arith}
use Rattle.std.specs.Ordering.{int_eq}
use Rattle.std.proofs.lemmas.Bool.{cases_eq}
use Rattle.std.proofs.lemmas.Option.{get_or_from_slice_get}
use Rattle.geo_int.specs.Place.{Place}
use Rattle.geo_int.specs.Arrow.{arrow_between}
use Rattle.map_tables.specs.Kept.{Kept, place_of_id}
use Rattle.overpass_graph.specs.declared.link.Link.{Link}
use Rattle.overpass_graph.specs.declared.pairs.Piece.{Piece}
use Rattle.overpass_graph.specs.Links.{both_ways, has_arrow, links_between, links_of_segment, links_along, links_of_way, links_from}
use Rattle.overpass_graph.specs.Made.{map_value}
use Rattle.overpass_graph.specs.Making.{AreFitting}
use Rattle.overpass_graph.specs.Maps.{IsMap, HasNames, node_at, no_node, no_link, roads_of}
use Rattle.overpass_graph.specs.Orders.{picked}
use Rattle.overpass_graph.specs.Pairs.{Net, paired}
use Rattle.overpass_graph.specs.Roads.{IsRoads, twin_of}
use Rattle.overpass_graph.specs.Turns.{TurnTable}
use Rattle.overpass_graph.proofs.ArrowLemmas.{arrow-turned}
use Rattle.overpass_graph.proofs.NodeLemmas.{picked-length, picked-ascending}
use Rattle.overpass_graph.proofs.PairLemmas.{twin-within, twin-twin, twin-even, twin-odd, paired-length, paired-from, paired-to}

-- ---- Links as they are laid

-- a link is of a way below this one, between two nodes that have an arrow
record IsLaidLink (nodes : List (Kept Place)) (ways : ℕ) (link : Link) : Type 0 where
  pub way_in : link.way < ways
  pub arrow : IsSome (arrow_between (node_at nodes link.from).content (node_at nodes link.to).content)

-- each link of a list is laid
abbrev AreLaid : List (Kept Place) → ℕ → List Link → Type 0
AreLaid nodes ways [] = Unit {0}
AreLaid nodes ways (l ∷ ls) = IsLaidLink nodes ways l × AreLaid nodes ways ls

-- each link of two lists is laid
laid-append : (nodes : List (Kept Place)) (ways : ℕ) (xs ys : List Link) → AreLaid nodes ways xs → AreLaid nodes ways ys →
    AreLaid nodes ways (xs ++ ys)
laid-append nodes ways [] ys here there = there
laid-append nodes ways (x ∷ xs) ys here there = (here.0, laid-append nodes ways xs ys here.1 there)

-- a link is laid by its number
laid-at : (nodes : List (Kept Place)) (ways : ℕ) (ls : List Link) (k : ℕ) → AreLaid nodes ways ls → k < length ls →
    IsLaidLink nodes ways (get_or ls k no_link)
laid-at nodes ways [] k laid below = absurd (omega arith)
laid-at nodes ways (l ∷ ls) zero laid below = laid.0
laid-at nodes ways (l ∷ ls) (suc k) laid below = laid-at nodes ways ls k laid.1 (omega arith)

-- the links of a segment are laid
segment-laid : (nodes : List (Kept Place)) (ways way segment : ℕ) (x y : ℤ) → way < ways →
    AreLaid nodes ways (links_of_segment nodes way segment x y)
unfolding links_of_segment
segment-laid nodes ways way segment x y below = by_same (int_eq x y)
  where
    by_arrow : (a b : ℕ) (o p : Option (Kept Place)) (arrow : Bool) → slice_get nodes a ≡ o →
        slice_get nodes b ≡ p → has_arrow o p ≡ arrow → AreLaid nodes ways (cond arrow (both_ways way segment a b) [])
    by_arrow a b o p false a_is b_is arrow = tt
    by_arrow a b None p true a_is b_is arrow = absurd cc
    by_arrow a b (Some k) None true a_is b_is arrow = absurd cc
    by_arrow a b (Some k) (Some m) true a_is b_is arrow =
        let at_a : node_at nodes a ≡ k = get_or_from_slice_get nodes a k no_node a_is in
        let at_b : node_at nodes b ≡ m = get_or_from_slice_get nodes b m no_node b_is in
        let there : IsSome (arrow_between (node_at nodes a).content (node_at nodes b).content) = rw (at_a, at_b) arrow in
        let back : IsSome (arrow_between (node_at nodes b).content (node_at nodes a).content) =
        arrow-turned (node_at nodes b).content (node_at nodes a).content ∙ there in
        (record { way_in = below; arrow = there }, (record { way_in = below; arrow = back }, tt))

    by_places : (o p : Option ℕ) → AreLaid nodes ways (links_between nodes way segment o p)
    by_places None p = tt
    by_places (Some a) None = tt
    by_places (Some a) (Some b) =
        by_arrow a b (slice_get nodes a) (slice_get nodes b) (has_arrow (slice_get nodes a) (slice_get nodes b)) refl refl refl

    by_same : (b : Bool) →
        AreLaid nodes ways (cond b [] (links_between nodes way segment (place_of_id x nodes) (place_of_id y nodes)))
    by_same true = tt
    by_same false = by_places (place_of_id x nodes) (place_of_id y nodes)

-- the links of a way from one of its segments on are laid
along-laid : (nodes : List (Kept Place)) (ways way segment : ℕ) (a : ℤ) (ids : List ℤ) → way < ways →
    AreLaid nodes ways (links_along nodes way segment a ids)
along-laid nodes ways way segment a [] below = tt
along-laid nodes ways way segment a (b ∷ ids) below =
    laid-append nodes ways (links_of_segment nodes way segment a b) (links_along nodes way (suc segment) b ids)
    (segment-laid nodes ways way segment a b below) (along-laid nodes ways way (suc segment) b ids below)

-- the links of a way are laid
way-laid : (nodes : List (Kept Place)) (ways way : ℕ) (ids : List ℤ) → way < ways → AreLaid nodes ways (links_of_way nodes way ids)
way-laid nodes ways way [] below = tt
way-laid nodes ways way (a ∷ ids) below = along-laid nodes ways way 0 a ids below

-- the links of ways are laid
ways-laid : (nodes : List (Kept Place)) (ways way : ℕ) (ws : List (Kept (List ℤ))) → way + length ws ≡ ways →
    AreLaid nodes ways (links_from nodes way ws)
ways-laid nodes ways way [] size = tt
ways-laid nodes ways way (w ∷ ws) size =
    laid-append nodes ways (links_of_way nodes way w.content) (links_from nodes (suc way) ws)
    (way-laid nodes ways way w.content (omega arith)) (ways-laid nodes ways (suc way) ws (omega arith))

-- ---- Links in pairs

-- an odd number is above 0
above_none : (n : ℕ) → (n % 2 ≡ 0 → ⊥) → 0 < n
above_none zero odd = absurd (odd refl)
above_none (suc n) odd = omega arith

-- the way back of the next pair's link is in the next pair
twin-next : (k : ℕ) → twin_of (suc (suc k)) ≡ suc (suc (twin_of k))
twin-next k =
    elim (cases_eq (k % 2) 0) [
      | inl even ↦
          let next : suc (suc k) % 2 ≡ 0 = omega arith in
          omega (arith, twin-even k even, twin-even (suc (suc k)) next)
      | inr odd ↦
          let next : suc (suc k) % 2 ≡ 0 → ⊥ = λ h. absurd (odd (omega arith)) in
          omega (arith, twin-odd k odd, twin-odd (suc (suc k)) next, above_none k odd)
    ]

-- a link and its way back are of one segment of one way
twin-piece : (ends : List ℕ) (pieces : List Piece) → length ends ≡ 2 * length pieces → (k : ℕ) → k < length ends →
    ((get_or (paired ends pieces) (twin_of k) no_link).way ≡ (get_or (paired ends pieces) k no_link).way)
    × ((get_or (paired ends pieces) (twin_of k) no_link).segment ≡ (get_or (paired ends pieces) k no_link).segment)
twin-piece [] pieces even k below = absurd (omega arith)
twin-piece (a ∷ ends) [] even k below = absurd (omega arith)
twin-piece (a ∷ []) (p ∷ pieces) even k below = absurd (omega arith)
twin-piece (a ∷ b ∷ ends) (p ∷ pieces) even zero below =
    let links = paired (a ∷ b ∷ ends) (p ∷ pieces) in
    let twin : twin_of 0 ≡ 1 = twin-even 0 refl in
    (ap (λ n. (get_or links n no_link).way) twin, ap (λ n. (get_or links n no_link).segment) twin)
twin-piece (a ∷ b ∷ ends) (p ∷ pieces) even (suc zero) below =
    let links = paired (a ∷ b ∷ ends) (p ∷ pieces) in
    let twin : twin_of 1 ≡ 0 = twin-odd 1 (λ h. absurd cc) in
    (ap (λ n. (get_or links n no_link).way) twin, ap (λ n. (get_or links n no_link).segment) twin)
twin-piece (a ∷ b ∷ ends) (p ∷ pieces) even (suc (suc k)) below =
    let links = paired (a ∷ b ∷ ends) (p ∷ pieces) in
    let rest = twin-piece ends pieces (omega arith) k (omega arith) in (
      ap (λ n. (get_or links n no_link).way) (twin-next k) ∙ rest.0,
      ap (λ n. (get_or links n no_link).segment) (twin-next k) ∙ rest.1,
    )

-- ---- The map

-- the links of fitting parts are roads in pairs
made-roads : (nodes : List (Kept Place)) (ways laid_ways : List (Kept (List ℤ))) (places numbers : List ℕ)
    (net : Net) (turns : TurnTable) (ends : List ℕ) (pieces : List Piece) →
    AreFitting nodes ways laid_ways places numbers net ends pieces → IsRoads (roads_of (map_value nodes ways places net turns))
made-roads nodes ways laid_ways places numbers net turns ends pieces fit =
    let size : length (picked nodes places) ≡ length nodes = picked-length nodes places numbers fit.order in
    let count : length net.links ≡ length ends = ap length fit.paired ∙ paired-length ends pieces fit.even in
    let in_ends : (k : ℕ) → k < length net.links → k < length ends = λ k within. omega (arith, count) in
    let twin_in : (k : ℕ) → k < length net.links → twin_of k < length ends = λ k within.
    let h = twin-within k (length pieces) (omega (arith, count, fit.even)) in
    omega (arith, h, fit.even) in
    let from_is : (k : ℕ) → k < length ends → (get_or net.links k no_link).from ≡ get_or ends k 0 = λ k within.
    ap (λ ls. (get_or ls k no_link).from) fit.paired ∙ paired-from ends pieces fit.even k within in
    let to_is : (k : ℕ) → k < length ends → (get_or net.links k no_link).to ≡ get_or ends (twin_of k) 0 = λ k within.
    ap (λ ls. (get_or ls k no_link).to) fit.paired ∙ paired-to ends pieces fit.even k within in
    record {
      few_nodes = omega (arith, size, fit.few_nodes);
      few_links = fit.few_links;
      from_in = λ k within.
          let h = fit.below k (in_ends k within) in
          omega (arith, size, h, from_is k (in_ends k within));
      to_in = λ k within.
          let h = fit.below (twin_of k) (twin_in k within) in
          omega (arith, size, h, to_is k (in_ends k within));
      twin_in = λ k within. omega (arith, count, twin_in k within);
      twin_from = λ k within. from_is (twin_of k) (twin_in k within) ∙ sym (to_is k (in_ends k within));
      twin_to = λ k within.
          to_is (twin_of k) (twin_in k within) ∙ ap (λ n. get_or ends n 0) (twin-twin k) ∙ sym (from_is k (in_ends k within));
    }

-- fitting parts make a map
pub lawful : (nodes : List (Kept Place)) (ways laid_ways : List (Kept (List ℤ))) (places numbers : List ℕ)
    (net : Net) (turns : TurnTable) (ends : List ℕ) (pieces : List Piece) →
    AreFitting nodes ways laid_ways places numbers net ends pieces → HasNames (map_value nodes ways places net turns) →
    IsMap (map_value nodes ways places net turns)
lawful nodes ways laid_ways places numbers net turns ends pieces fit names =
    let count : length net.links ≡ length ends = ap length fit.paired ∙ paired-length ends pieces fit.even in
    let all_laid : AreLaid (picked nodes places) (length ways) net.links =
    subst (λ ls. AreLaid (picked nodes places) (length ways) ls) (sym fit.laid)
    (ways-laid (picked nodes places) (length ways) 0 laid_ways (omega (arith, fit.same_ways))) in
    record {
      ascending = picked-ascending nodes places numbers fit.order;
      roads = made-roads nodes ways laid_ways places numbers net turns ends pieces fit;
      way_in = λ k within. (laid-at (picked nodes places) (length ways) net.links k all_laid within).way_in;
      arrow = λ k within. (laid-at (picked nodes places) (length ways) net.links k all_laid within).arrow;
      twin_way = λ k within.
          ap (λ ls. (get_or ls (twin_of k) no_link).way) fit.paired
          ∙ (twin-piece ends pieces fit.even k (omega (arith, count))).0
          ∙ sym (ap (λ ls. (get_or ls k no_link).way) fit.paired);
      twin_segment = λ k within.
          ap (λ ls. (get_or ls (twin_of k) no_link).segment) fit.paired
          ∙ (twin-piece ends pieces fit.even k (omega (arith, count))).1
          ∙ sym (ap (λ ls. (get_or ls k no_link).segment) fit.paired);
      names = names;
    }
