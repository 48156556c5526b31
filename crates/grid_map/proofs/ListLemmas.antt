-- The list of the lengths of a grid's segments.
use Rattle.std.proofs.Common.{ℕ, ◌≡◌, ◌+◌, ◌*◌, ◌<◌, Bool, true, false, cond, List, [], ◌∷◌, ◌++◌, length, take, get_or, Option, Some, None, option_map, slice_get, unwrap_or, sym, ap, ◌∙◌, subst, arith}
use Rattle.std.proofs.lemmas.List.{length-map, take_more}
use Rattle.std.proofs.lemmas.Option.{slice_get-map, slice_get_within, get_or_from_slice_get}
use Rattle.geo_int.specs.Place.{Place}
use Rattle.geo_int.specs.Arrow.{arrow_between, arrow_of, length_between, east_between, north_between}
use Rattle.geo_int.specs.declared.offsets.Arrow.{Arrow}
use Rattle.grid_map.specs.declared.plan.Plan.{Plan}
use Rattle.grid_map.specs.declared.segment.GridSegment.{GridSegment}
use Rattle.grid_map.specs.Plan.{cells_of, is_there}
use Rattle.grid_map.specs.Segments.{numbers_of, segment_of, segments_of, place_of}
use Rattle.grid_map.specs.Lengths.{cell_place, segment_length}
use Rattle.grid_map.specs.Costs.{Costs, AreCheap, cost_at, listed_costs, length_costs, length_list}
use Rattle.grid_map.specs.Walks.{Joins, forth, back, IsGridWalk, stays, goes, HaveSameWalks}
use Rattle.grid_map.proofs.NumberLemmas.{IsNumber, numbers_of-within, place_of-is}
use Rattle.grid_map.proofs.StepLemmas.{is_there-parts}
use Rattle.grid_map.proofs.LengthLemmas.{segment_length-short}
use Rattle.item_list.proofs.TestLemmas.{option_map-some}

-- the segment at a place, and its number
pub record IsSegmentAt (plan : Plan) (i : ℕ) (segment : GridSegment) : Type 0 where
  pub k : ℕ
  pub at : slice_get (numbers_of plan) i ≡ Some k
  pub is : segment_of plan k ≡ segment
  pub number : IsNumber plan k

-- the segment that was read at a place has the number there
pub segments_of-at :
    (plan : Plan) (i : ℕ) (segment : GridSegment) → slice_get (segments_of plan) i ≡ Some segment → IsSegmentAt plan i segment
segments_of-at plan i segment read =
    let found =
    option_map-some (segment_of plan) segment (slice_get (numbers_of plan) i)
    (sym (slice_get-map (segment_of plan) (numbers_of plan) i) ∙ read) in
    record { k = found.0; at = found.1; is = found.2; number = numbers_of-within plan i found.0 found.1 }

-- the length of the segment at a place
pub segment-length_is : (plan : Plan) (i : ℕ) (segment : GridSegment) → (at : IsSegmentAt plan i segment) →
    segment_length plan at.k ≡ length_between (cell_place plan segment.a) (cell_place plan segment.b)
unfolding segment_length
segment-length_is plan i segment at = ap (λ (s : GridSegment). length_between (cell_place plan s.a) (cell_place plan s.b)) at.is

-- an arrow that was found has the length between its places
found-length : (b : Bool) (made found : Arrow) → Some found ≡ cond b (Some made) None → found.len ≡ made.len
found-length true made found is = let same : found ≡ made = cc in ap (λ (a : Arrow). a.len) same
found-length false made found is = cc

-- the arrow between two places has the length between them
arrow_between-length : (a b : Place) (found : Arrow) → Some found ≡ arrow_between a b → found.len ≡ length_between a b
unfolding arrow_between length_between
arrow_between-length a b found is = found-length _ (arrow_of (east_between a b) (north_between a b)) found is

-- the places of a segment's cells
pub record AreEnds (plan : Plan) (segment : GridSegment) (a b : Place) : Type 0 where
  pub first : a ≡ cell_place plan segment.a
  pub second : b ≡ cell_place plan segment.b

-- the length between the cells of the segment at a place
between-ends : (plan : Plan) (i : ℕ) (segment : GridSegment) (a b : Place) → (at : IsSegmentAt plan i segment) → AreEnds plan segment a b →
    segment_length plan at.k ≡ length_between a b
between-ends plan i segment a b at ends =
    segment-length_is plan i segment at ∙ ap (λ p. length_between p (cell_place plan segment.b)) (sym ends.first) ∙ ap (length_between a)
    (sym ends.second)

-- what was measured at a place stands there in the list of the lengths
pub length_list-at : (plan : Plan) (i : ℕ) (segment : GridSegment) (a b : Place) (found : Arrow) (measured : ℕ) →
    slice_get (segments_of plan) i ≡ Some segment → AreEnds plan segment a b → Some found ≡ arrow_between a b → measured ≡ found.len →
    slice_get (length_list plan) i ≡ Some (Some measured)
length_list-at plan i segment a b found measured read ends is len =
    let at = segments_of-at plan i segment read in
    let length_is : segment_length plan at.k ≡ measured =
    between-ends plan i segment a b at ends ∙ sym (arrow_between-length a b found is) ∙ sym len in
    slice_get-map (λ k. Some (segment_length plan k)) (numbers_of plan) i
    ∙ ap (option_map (λ k. Some (segment_length plan k))) at.at
    ∙ ap (λ (n : ℕ). Some (Some n)) length_is

-- no segment of a grid is too long for an arrow
pub segment-not_long : (plan : Plan) (i : ℕ) (segment : GridSegment) (a b : Place) → 0 < plan.width →
    slice_get (segments_of plan) i ≡ Some segment → AreEnds plan segment a b → 100000000 < length_between a b → ⊥
segment-not_long plan i segment a b some read ends long =
    let at = segments_of-at plan i segment read in
    omega (arith, segment_length-short plan at.k some at.number.there, between-ends plan i segment a b at ends)

-- there are as many lengths as segments
pub length-length_list : (plan : Plan) → length (length_list plan) ≡ length (segments_of plan)
length-length_list plan = length-map (numbers_of plan) _ ∙ sym (length-map (numbers_of plan) (segment_of plan))

-- the lengths up to the next one
pub length_list-more : (costs pushed all : List (Option ℕ)) (i : ℕ) (next : Option ℕ) → costs ≡ take i all → slice_get all i ≡ Some next →
    pushed ≡ costs ++ next ∷ [] → pushed ≡ take (i + 1) all
length_list-more costs pushed all i next are at is =
    let within : i < length all = slice_get_within all i next at in
    let more : take (i + 1) all ≡ take i all ++ get_or all i next ∷ [] = take_more all i next within in
    let last : get_or all i next ≡ next = get_or_from_slice_get all i next next at in
    cc

-- no length reaches the bound of a search
pub length_list-cheap : (plan : Plan) → 0 < plan.width → AreCheap (length_list plan)
length_list-cheap plan some place cost at =
    let found = option_map-some (λ k. Some (segment_length plan k)) (Some cost) (slice_get (numbers_of plan) place)
    (sym (slice_get-map (λ k. Some (segment_length plan k)) (numbers_of plan) place) ∙ at) in
    let same : segment_length plan found.0 ≡ cost = cc (found.2) in
    let short = segment_length-short plan found.0 some (numbers_of-within plan place found.0 found.1).there in
    omega (arith, short, same)

-- the listed length of a segment that is there is its length
listed-length : (plan : Plan) (k : ℕ) → is_there plan k ≡ true → cost_at (length_list plan) (place_of plan k) ≡ Some (segment_length plan k)
listed-length plan k there =
    let inside = (is_there-parts plan k there).0 in
    let below : k < 2 * cells_of plan = omega (arith, inside) in
    let found = place_of-is plan k (record { below = below; there = there }) in
    ap (cost_at (length_list plan)) found.1
    ∙ ap (λ (entry : Option (Option ℕ)). unwrap_or entry None)
    (slice_get-map (λ k. Some (segment_length plan k)) (numbers_of plan) found.0 ∙ ap (option_map (λ k. Some (segment_length plan k)))
    found.2)

-- a walk by other costs that join the same cells at the same costs
same-walk : (plan : Plan) (these those : Costs) → ((a b cost : ℕ) → Joins plan these a b cost → Joins plan those a b cost) →
    {from to cost : ℕ} {cells : List ℕ} → IsGridWalk plan these from to cells cost → IsGridWalk plan those from to cells cost
same-walk plan these those joined stays = stays
same-walk plan these those joined (goes {from = from} {next = next} {cost = cost} joins walk) =
    goes (joined from next cost joins) (same-walk plan these those joined walk)

-- the listed lengths join what the lengths join
listed-joins :
    (plan : Plan) (a b cost : ℕ) → Joins plan (listed_costs plan (length_list plan) (length_list plan)) a b cost →
    Joins plan (length_costs plan) a b cost
listed-joins plan a b cost (forth k g) =
    forth k (record { there = g.there; start = g.start; end = g.end; permitted = sym (listed-length plan k g.there) ∙ g.permitted })
listed-joins plan a b cost (back k g) =
    back k (record { there = g.there; start = g.start; end = g.end; permitted = sym (listed-length plan k g.there) ∙ g.permitted })

-- the lengths join what the listed lengths join
length-joins :
    (plan : Plan) (a b cost : ℕ) → Joins plan (length_costs plan) a b cost →
    Joins plan (listed_costs plan (length_list plan) (length_list plan)) a b cost
length-joins plan a b cost (forth k g) =
    forth k (record { there = g.there; start = g.start; end = g.end; permitted = listed-length plan k g.there ∙ g.permitted })
length-joins plan a b cost (back k g) =
    back k (record { there = g.there; start = g.start; end = g.end; permitted = listed-length plan k g.there ∙ g.permitted })

-- the listed lengths permit the same walks as the lengths
pub length_list-same_walks :
    (plan : Plan) (costs : List (Option ℕ)) → costs ≡ length_list plan →
    HaveSameWalks plan (listed_costs plan costs costs) (length_costs plan)
length_list-same_walks plan costs are =
    let P : List (Option ℕ) → Type 0 = λ list. HaveSameWalks plan (listed_costs plan list list) (length_costs plan) in
    subst P (sym are) (record {
      these_are = λ from to cells cost walk. same-walk plan _ _ (listed-joins plan) walk;
      those_are = λ from to cells cost walk. same-walk plan _ _ (length-joins plan) walk;
    })
