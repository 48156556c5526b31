-- How long walks across a grid are: a walk goes in short steps, whose lengths are added one by one.
use Rattle.std.proofs.Common.{◌≡◌, ℕ, zero, suc, ◌+◌, ◌-◌, ◌<◌, ◌≤◌, List, [], ◌∷◌, length, take, slice_index_or, true, Some, sym, ap, ◌∙◌, subst, arith}
use Rattle.geo_int.proofs.ArrowLemmas.{length_between-is}
use Rattle.geo_int.proofs.CallerLemmas.{arrow_between-found}
use Rattle.geo_int.specs.Arrow.{arrow_between, length_between}
use Rattle.geo_int.specs.Place.{Place}
use Rattle.geo_int.specs.declared.offsets.Arrow.{Arrow}
use Rattle.grid_map.proofs.LengthLemmas.{segment_length-short}
use Rattle.grid_map.proofs.StepLemmas.{is_there-within}
use Rattle.grid_map.specs.Costs.{Costs}
use Rattle.grid_map.specs.Lengths.{cell_place, segment_length}
use Rattle.grid_map.specs.Plan.{end_of, is_there, start_of}
use Rattle.grid_map.specs.Walks.{IsGridWalk, Joins, forth, back, stays, goes}
use Rattle.grid_map.specs.declared.plan.Plan.{Plan}
use Rattle.made_routes.specs.Lengths.{AreShortSteps, IsShortStep, distance_between, walk_length}
use Rattle.overpass_graph.proofs.ArrowLemmas.{length-turned}

-- ---- One step

-- the cells of a segment are a short step
segment-short : (plan : Plan) (k : ℕ) → 1 ≤ plan.width → is_there plan k ≡ true → IsShortStep plan (start_of k) (end_of plan k)
unfolding segment_length
segment-short plan k some there =
    let within = is_there-within plan k some there in
    record { from_in = within.start; to_in = within.end; short = segment_length-short plan k some there }

-- a short step is one the other way round
turned : (plan : Plan) (a b : ℕ) → IsShortStep plan a b → IsShortStep plan b a
turned plan a b is = record {
  from_in = is.to_in;
  to_in = is.from_in;
  short = subst (λ (n : ℕ). n ≤ 100000000) (length-turned _ _) is.short;
}

-- cells that a segment joins are a short step
joined-short : (plan : Plan) (costs : Costs) (a b cost : ℕ) → 1 ≤ plan.width → Joins plan costs a b cost → IsShortStep plan a b
joined-short plan costs a b cost some (forth k along) =
    subst (λ (n : ℕ). IsShortStep plan n b) along.start
    (subst (λ (n : ℕ). IsShortStep plan (start_of k) n) along.end (segment-short plan k some along.there))
joined-short plan costs a b cost some (back k along) =
    subst (λ (n : ℕ). IsShortStep plan n b) along.end
    (subst (λ (n : ℕ). IsShortStep plan (end_of plan k) n) along.start (turned plan _ _ (segment-short plan k some along.there)))

-- ---- All steps

-- a step before a walk
before : (plan : Plan) (costs : Costs) (from next to rest : ℕ) (cells : List ℕ) → IsShortStep plan from next →
    IsGridWalk plan costs next to cells rest → AreShortSteps plan cells → AreShortSteps plan (from ∷ cells)
before plan costs from next to rest _ step stays more = (step, more)
before plan costs from next to rest _ step (goes join walk) more = (step, more)

-- a walk goes in short steps
pub walk-short : (plan : Plan) (costs : Costs) (from to cost : ℕ) (cells : List ℕ) → 1 ≤ plan.width →
    IsGridWalk plan costs from to cells cost → AreShortSteps plan cells
walk-short plan costs from to cost cells some stays = tt
walk-short plan costs from to cost cells some (goes {next = next} {cost = first} {rest = rest} {cells = more} join walk) =
    before plan costs from next to rest more (joined-short plan costs from next first some join) walk
    (walk-short plan costs next to rest more some walk)

-- a step among short steps
step-at : (plan : Plan) (cells : List ℕ) (place : ℕ) → suc place < length cells → AreShortSteps plan cells →
    IsShortStep plan (slice_index_or cells place 0) (slice_index_or cells (suc place) 0)
step-at plan [] place below are = absurd (omega (arith, below))
step-at plan (cell ∷ []) place below are = absurd (omega (arith, below))
step-at plan (cell ∷ next ∷ cells) zero below are = are.0
step-at plan (cell ∷ next ∷ cells) (suc place) below are = step-at plan (next ∷ cells) place (omega (arith, below)) are.1

-- the length with one more cell
length-more : (plan : Plan) (cells : List ℕ) (place : ℕ) → suc place < length cells →
    walk_length plan (take (suc (suc place)) cells)
    ≡ walk_length plan (take (suc place) cells) + distance_between plan (slice_index_or cells place 0) (slice_index_or cells (suc place) 0)
length-more plan [] place below = absurd (omega (arith, below))
length-more plan (cell ∷ []) place below = absurd (omega (arith, below))
length-more plan (cell ∷ next ∷ cells) zero below = omega arith
length-more plan (cell ∷ next ∷ cells) (suc place) below =
    let more = length-more plan (next ∷ cells) place (omega (arith, below)) in
    omega (arith, more)

-- the step to a place
pub step-to : (plan : Plan) (cells : List ℕ) (place : ℕ) → 1 ≤ place → place < length cells → AreShortSteps plan cells →
    IsShortStep plan (slice_index_or cells (place - 1) 0) (slice_index_or cells place 0)
step-to plan cells zero some below are = absurd (omega (arith, some))
step-to plan cells (suc place) some below are =
    let e : suc place - 1 ≡ place = omega arith in
    subst (λ (n : ℕ). IsShortStep plan (slice_index_or cells n 0) (slice_index_or cells (suc place) 0)) (sym e)
    (step-at plan cells place below are)

-- the length up to a place, and the step to it
pub length-to : (plan : Plan) (cells : List ℕ) (place sum next : ℕ) → 1 ≤ place → place < length cells →
    sum ≡ walk_length plan (take place cells) →
    next ≡ distance_between plan (slice_index_or cells (place - 1) 0) (slice_index_or cells place 0) →
    sum + next ≡ walk_length plan (take (place + 1) cells)
length-to plan cells zero sum next some below before is = absurd (omega (arith, some))
length-to plan cells (suc place) sum next some below before is =
    let e : suc place - 1 ≡ place = omega arith in
    let f : suc place + 1 ≡ suc (suc place) = omega arith in
    let more = length-more plan cells place below in
    let step : next ≡ distance_between plan (slice_index_or cells place 0) (slice_index_or cells (suc place) 0) =
    is ∙ ap (λ (n : ℕ). distance_between plan (slice_index_or cells n 0) (slice_index_or cells (suc place) 0)) e in
    subst (λ (n : ℕ). sum + next ≡ walk_length plan (take n cells)) (sym f) (omega (arith, before, step, more))

-- ---- Arrows

-- the arrow between two places is as long as the distance between the cells that lie there
pub distance-is : (plan : Plan) (a b n : ℕ) (first second : Place) (found : Arrow) → first ≡ cell_place plan a →
    second ≡ cell_place plan b →
    arrow_between first second ≡ Some found → n ≡ found.len → n ≡ distance_between plan a b
distance-is plan a b n first second found at_a at_b there is =
    is ∙ length_between-is first second found (arrow_between-found first second found there).0
    ∙ ap (λ (p : Place). length_between p second) at_a ∙ ap (λ (p : Place). length_between (cell_place plan a) p) at_b
