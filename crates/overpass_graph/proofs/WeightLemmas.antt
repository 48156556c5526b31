-- Links as they are laid, each of a greater weight than the one before, and the place of a weight among them.
use Rattle.std.proofs.Common.{◌≡◌, ℕ, ℤ, zero, suc, ◌+◌, ◌^◌, ◌<◌, ◌≤◌, ◌⊎◌, Bool, true, false, cond, inl, inr, List, [], ◌∷◌, ◌++◌, length, get_or, slice_get, Option, Some, None, sym, subst, arith}
use Rattle.std.specs.Ordering.{int_eq}
use Rattle.std.proofs.lemmas.Bool.{cases_eq}
use Rattle.geo_int.specs.Place.{Place}
use Rattle.map_tables.specs.Draft.{segments_in, segment_count}
use Rattle.map_tables.specs.Kept.{Kept, place_of_id}
use Rattle.overpass_graph.specs.declared.link.Link.{Link}
use Rattle.overpass_graph.specs.Links.{both_ways, has_arrow, links_between, links_of_segment, links_along, links_of_way, links_from, weight_of, link_weight}
use Rattle.overpass_graph.specs.Maps.{no_link}
use Rattle.overpass_graph.specs.Members.{KeptWay}
use Rattle.overpass_graph.specs.Names.{FindsWeight, AreInOrder, IsPlaceOf}

-- ---- Links in order

-- a direction weighs less than two
direction_below : (back : Bool) → cond back 1 0 < 2
direction_below true = omega arith
direction_below false = omega arith

-- a link weighs at least so much, and its segment has 32 bits
record IsNext (low : ℕ) (link : Link) : Type 0 where
  pub above : low ≤ link_weight link
  pub small : link.segment < 2 ^ 32

-- links weigh more and more, from one weight to below another
abbrev AreWithin : (low high : ℕ) → List Link → Type 0
AreWithin low high [] = low ≤ high
AreWithin low high (l ∷ ls) = IsNext low l × AreWithin (suc (link_weight l)) high ls

-- they begin no later
earlier : (low mid high : ℕ) (ls : List Link) → low ≤ mid → AreWithin mid high ls → AreWithin low high ls
earlier low mid high [] less within = omega (arith, less, within)
earlier low mid high (l ∷ ls) less within =
    (record { above = omega (arith, less, within.0.above); small = within.0.small }, within.1)

-- they end no earlier
later : (low mid high : ℕ) (ls : List Link) → AreWithin low mid ls → mid ≤ high → AreWithin low high ls
later low mid high [] within less = omega (arith, less, within)
later low mid high (l ∷ ls) within less = (within.0, later (suc (link_weight l)) mid high ls within.1 less)

-- one list after the other
within-append : (low mid high : ℕ) (xs ys : List Link) → AreWithin low mid xs → AreWithin mid high ys → AreWithin low high (xs ++ ys)
within-append low mid high [] ys first second = earlier low mid high ys first second
within-append low mid high (x ∷ xs) ys first second = (first.0, within-append (suc (link_weight x)) mid high xs ys first.1 second)

-- the links of a segment
segment-within : (nodes : List (Kept Place)) (way segment : ℕ) (x y : ℤ) → segment < 2 ^ 32 →
    AreWithin (weight_of way segment false) (weight_of way (suc segment) false) (links_of_segment nodes way segment x y)
unfolding links_of_segment
segment-within nodes way segment x y small = by_same (int_eq x y)
  where
    by_arrow : (a b : ℕ) (arrow : Bool) →
        AreWithin (weight_of way segment false) (weight_of way (suc segment) false) (cond arrow (both_ways way segment a b) [])
    by_arrow a b false = omega arith
    by_arrow a b true =
        (record { above = omega arith; small = small }, (record { above = omega arith; small = small }, omega arith))

    by_places : (o p : Option ℕ) →
        AreWithin (weight_of way segment false) (weight_of way (suc segment) false) (links_between nodes way segment o p)
    by_places None p = omega arith
    by_places (Some a) None = omega arith
    by_places (Some a) (Some b) = by_arrow a b (has_arrow (slice_get nodes a) (slice_get nodes b))

    by_same : (b : Bool) →
        AreWithin (weight_of way segment false) (weight_of way (suc segment) false)
        (cond b [] (links_between nodes way segment (place_of_id x nodes) (place_of_id y nodes)))
    by_same true = omega arith
    by_same false = by_places (place_of_id x nodes) (place_of_id y nodes)

-- the links of a way from one of its segments on
along-within : (nodes : List (Kept Place)) (way segment : ℕ) (a : ℤ) (ids : List ℤ) → segment + length ids < 2 ^ 32 →
    AreWithin (weight_of way segment false) (weight_of way (segment + length ids) false) (links_along nodes way segment a ids)
along-within nodes way segment a [] few = omega arith
along-within nodes way segment a (b ∷ ids) few =
    let rest = along-within nodes way (suc segment) b ids (omega arith) in
    within-append (weight_of way segment false) (weight_of way (suc segment) false) (weight_of way (segment + length (b ∷ ids)) false)
    (links_of_segment nodes way segment a b) (links_along nodes way (suc segment) b ids)
    (segment-within nodes way segment a b (omega arith))
    (later (weight_of way (suc segment) false) (weight_of way (suc segment + length ids) false)
    (weight_of way (segment + length (b ∷ ids)) false) (links_along nodes way (suc segment) b ids) rest (omega arith))

-- the links of a way
way-within : (nodes : List (Kept Place)) (way : ℕ) (ids : List ℤ) → segment_count ids < 2 ^ 32 →
    AreWithin (weight_of way 0 false) (weight_of (suc way) 0 false) (links_of_way nodes way ids)
way-within nodes way [] few = omega arith
way-within nodes way (a ∷ ids) few =
    later (weight_of way 0 false) (weight_of way (0 + length ids) false) (weight_of (suc way) 0 false) (links_along nodes way 0 a ids)
    (along-within nodes way 0 a ids (omega arith)) (omega arith)

-- the links of ways
ways-within : (nodes : List (Kept Place)) (way : ℕ) (ws : List KeptWay) → segments_in ws < 2 ^ 32 →
    AreWithin (weight_of way 0 false) (weight_of (way + length ws) 0 false) (links_from nodes way ws)
ways-within nodes way [] few = omega arith
ways-within nodes way (w ∷ ws) few =
    let rest = ways-within nodes (suc way) ws (omega arith) in
    within-append (weight_of way 0 false) (weight_of (suc way) 0 false) (weight_of (way + length (w ∷ ws)) 0 false)
    (links_of_way nodes way w.content) (links_from nodes (suc way) ws) (way-within nodes way w.content (omega arith))
    (later (weight_of (suc way) 0 false) (weight_of (suc way + length ws) 0 false) (weight_of (way + length (w ∷ ws)) 0 false)
    (links_from nodes (suc way) ws) rest (omega arith))

-- a link by its number
within-at : (low high : ℕ) (ls : List Link) (k : ℕ) → AreWithin low high ls → k < length ls → IsNext low (get_or ls k no_link)
within-at low high [] k within below = absurd (omega arith)
within-at low high (l ∷ ls) zero within below = within.0
within-at low high (l ∷ ls) (suc k) within below =
    let rest = within-at (suc (link_weight l)) high ls k within.1 (omega arith) in
    record { above = omega (arith, rest.above, within.0.above); small = rest.small }

-- two links by their numbers
within-rising : (low high : ℕ) (ls : List Link) (i j : ℕ) → AreWithin low high ls → i < j → j < length ls →
    link_weight (get_or ls i no_link) < link_weight (get_or ls j no_link)
within-rising low high [] i j within before below = absurd (omega arith)
within-rising low high (l ∷ ls) i zero within before below = absurd (omega arith)
within-rising low high (l ∷ ls) zero (suc j) within before below =
    (within-at (suc (link_weight l)) high ls j within.1 (omega arith)).above
within-rising low high (l ∷ ls) (suc i) (suc j) within before below =
    within-rising (suc (link_weight l)) high ls i j within.1 (omega arith) (omega arith)

-- the links of ways stand in order, and their segments have 32 bits
pub record AreLaidInOrder (links : List Link) : Type 0 where
  pub rising : AreInOrder links
  pub small : (k : ℕ) → k < length links → (get_or links k no_link).segment < 2 ^ 32

pub laid-in_order : (nodes : List (Kept Place)) (ws : List KeptWay) (links : List Link) → links ≡ links_from nodes 0 ws →
    segments_in ws < 2 ^ 32 → AreLaidInOrder links
laid-in_order nodes ws links laid few =
    let all : AreWithin (weight_of 0 0 false) (weight_of (0 + length ws) 0 false) links =
    subst (λ ls. AreWithin (weight_of 0 0 false) (weight_of (0 + length ws) 0 false) ls) (sym laid) (ways-within nodes 0 ws few) in
    record {
      rising = λ i j before below.
          within-rising (weight_of 0 0 false) (weight_of (0 + length ws) 0 false) links i j all before below;
      small = λ k below. (within-at (weight_of 0 0 false) (weight_of (0 + length ws) 0 false) links k all below).small;
    }

-- ---- Places by weight

-- a link in the order weighs no more than one that doesn't stand before it
in_order : (links : List Link) (i j : ℕ) → AreInOrder links → i ≤ j → j < length links →
    link_weight (get_or links i no_link) ≤ link_weight (get_or links j no_link)
in_order links i j rising before below =
    elim (cases_eq i j) [
      | inl same ↦ subst (λ n. link_weight (get_or links i no_link) ≤ link_weight (get_or links n no_link)) same (omega arith)
      | inr other ↦ omega (arith, rising i j (omega arith) below)
    ]

-- what is known of a place between two while the links between them are halved
pub record IsHalving (links : List Link) (weight low high : ℕ) : Type 0 where
  pub order : low ≤ high
  pub within : high ≤ length links
  pub before : (k : ℕ) → k < low → link_weight (get_or links k no_link) < weight
  pub behind : (k : ℕ) → high ≤ k → k < length links → weight ≤ link_weight (get_or links k no_link)

-- at first nothing is known
pub halving-first : (links : List Link) (weight high : ℕ) → high ≡ length links → IsHalving links weight 0 high
halving-first links weight high size = record {
  order = omega arith;
  within = omega (arith, size);
  before = λ k below. absurd (omega arith);
  behind = λ k from below. absurd (omega (arith, size));
}

-- where the link in the middle weighs less, so do all before it
pub halving-less : (links : List Link) (weight low high middle next : ℕ) → AreInOrder links → IsHalving links weight low high →
    middle < high → next ≡ middle + 1 → link_weight (get_or links middle no_link) < weight → IsHalving links weight next high
halving-less links weight low high middle next rising is below next_is less = record {
  order = omega (arith, next_is);
  within = is.within;
  before = λ k under.
      let upto = in_order links k middle rising (omega (arith, next_is)) (omega (arith, is.within)) in
      omega (arith, less, upto);
  behind = is.behind;
}

-- where it does not, neither do all behind it
pub halving-more : (links : List Link) (weight low high middle : ℕ) → AreInOrder links → IsHalving links weight low high →
    low ≤ middle → middle < high → weight ≤ link_weight (get_or links middle no_link) → IsHalving links weight low middle
halving-more links weight low high middle rising is above below more = record {
  order = above;
  within = omega (arith, is.within);
  before = is.before;
  behind = λ k from under.
      let upto = in_order links middle k rising from under in
      omega (arith, more, upto);
}

-- where both meet is the place
pub halving-last : (links : List Link) (weight low high : ℕ) → IsHalving links weight low high → high ≤ low → IsPlaceOf links weight low
halving-last links weight low high is met = record {
  within = omega (arith, is.within, is.order);
  before = is.before;
  behind = λ k from under. is.behind k (omega (arith, is.order)) under;
}

-- where the link at the place weighs something else, none weighs so much
pub weight-none : (links : List Link) (weight place : ℕ) → AreInOrder links → IsPlaceOf links weight place →
    (place < length links → link_weight (get_or links place no_link) ≡ weight → ⊥) → FindsWeight links weight None
weight-none links weight place rising is other link below same =
    elim (cases_lt link place) [
      | inl before ↦ absurd (omega (arith, is.before link before, same))
      | inr from ↦
          let here : place < length links = omega arith in
          let least = is.behind place (omega arith) here in
          let most = in_order links place link rising from below in
          other here (omega (arith, least, most, same))
    ]
  where
    cases_lt : (m n : ℕ) → (m < n) ⊎ (n ≤ m)
    cases_lt zero zero = inr (omega arith)
    cases_lt zero (suc n) = inl (omega arith)
    cases_lt (suc m) zero = inr (omega arith)
    cases_lt (suc m) (suc n) = elim (cases_lt m n) [ inl h ↦ inl (omega arith) | inr h ↦ inr (omega arith) ]
