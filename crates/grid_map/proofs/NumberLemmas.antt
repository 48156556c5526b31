-- The numbers of a grid's segments, and their places in the list.
use Rattle.std.proofs.Common.{ℕ, zero, suc, ◌≡◌, ◌+◌, ◌*◌, ◌<◌, ◌≤◌, Bool, true, false, cond, List, [], ◌∷◌, ◌++◌, length, map, filter, get_or, Option, Some, None, refl, sym, ap, ◌∙◌, inl, inr, arith, ◌⊎◌, append-nil, option_map, subst}
use Rattle.std.specs.List.{range_with_len, slice_get}
use Rattle.std.proofs.lemmas.List.{length-map}
use Rattle.std.proofs.lemmas.List.FromFn.{get_or-map-range_with_len, length-map-range_with_len}
use Rattle.std.proofs.lemmas.Bool.{cases_Bool}
use Rattle.std.proofs.lemmas.Nat.{mul-le}
use Rattle.std.proofs.lemmas.Option.{slice_get-get_or, slice_get-map, slice_get_within}
use Rattle.grid_map.specs.declared.plan.Plan.{Plan}
use Rattle.grid_map.specs.Plan.{IsPlan, cells_of, is_there}
use Rattle.grid_map.specs.Segments.{numbers_below, numbers_of, segment_of, segments_of, place_of, HasPlace}

-- a front that may have one more element before it
cond-append : (b : Bool) (x : ℕ) (xs ys : List ℕ) → cond b (x ∷ (xs ++ ys)) (xs ++ ys) ≡ cond b (x ∷ xs) xs ++ ys
cond-append true x xs ys = refl
cond-append false x xs ys = refl

-- a grid has at most a million cells
pub cells_of-within : (plan : Plan) → IsPlan plan → cells_of plan ≤ 1000000
cells_of-within plan is = mul-le plan.width plan.height 1000 1000 is.width is.height

-- one more number that is tried stands last, if it passes
filter_range-more : (p : ℕ → Bool) (a n j : ℕ) → a + n ≡ j →
    filter p (range_with_len a (n + 1)) ≡ filter p (range_with_len a n) ++ cond (p j) (j ∷ []) []
filter_range-more p a zero j is = let e : a ≡ j = omega arith in ap (λ (x : ℕ). cond (p x) (x ∷ []) []) e
filter_range-more p a (suc n) j is =
    let more = filter_range-more p (a + 1) n j (omega arith) in
    let last : suc n + 1 ≡ suc (n + 1) = omega arith in
    ap (λ (m : ℕ). filter p (range_with_len a m)) last
    ∙ ap (λ (xs : List ℕ). cond (p a) (a ∷ xs) xs) more
    ∙ cond-append (p a) a (filter p (range_with_len (a + 1) n)) (cond (p j) (j ∷ []) [])

-- a list with perhaps one more element is no longer than the bound
length-cond : (b : Bool) (x n : ℕ) (xs : List ℕ) → length xs ≤ n → length (cond b (x ∷ xs) xs) ≤ suc n
length-cond true x n xs short = omega arith
length-cond false x n xs short = omega arith

-- no more numbers pass than are tried
length-filter_range : (p : ℕ → Bool) (a n : ℕ) → length (filter p (range_with_len a n)) ≤ n
length-filter_range p a zero = omega arith
length-filter_range p a (suc n) = length-cond (p a) a n _ (length-filter_range p (a + 1) n)

-- an element of a list that may have one more before it
get-cond : (b : Bool) (a i x : ℕ) (xs : List ℕ) → slice_get (cond b (a ∷ xs) xs) i ≡ Some x →
    ((a ≡ x) × (b ≡ true)) ⊎ ((j : ℕ) × (slice_get xs j ≡ Some x))
get-cond true a zero x xs at = inl (cc, refl)
get-cond true a (suc i) x xs at = inr (i, at)
get-cond false a i x xs at = inr (i, at)

-- what passes is among the numbers that are tried
filter_range-within : (p : ℕ → Bool) (a n i x : ℕ) → slice_get (filter p (range_with_len a n)) i ≡ Some x →
    (x < a + n) × (p x ≡ true)
filter_range-within p a zero i x at = cc
filter_range-within p a (suc n) i x at =
    elim (get-cond (p a) a i x _ at) [
      | inl here ↦ (omega (arith, here.0), ap p (sym here.0) ∙ here.1)
      | inr behind ↦
          let found = filter_range-within p (a + 1) n behind.0 x behind.1 in
          (omega (arith, found.0), found.1)
    ]

-- the first of the numbers that are tried stands first, if it passes
get-cond_first : (b : Bool) (x : ℕ) (xs : List ℕ) → b ≡ true → slice_get (cond b (x ∷ xs) xs) 0 ≡ Some x
get-cond_first true x xs passes = refl
get-cond_first false x xs passes = cc

-- two lists that both may have one more element before them
get-cond_behind : (b : Bool) (a x : ℕ) (xs ys : List ℕ) → slice_get xs (length ys) ≡ Some x →
    slice_get (cond b (a ∷ xs) xs) (length (cond b (a ∷ ys) ys)) ≡ Some x
get-cond_behind true a x xs ys at = at
get-cond_behind false a x xs ys at = at

-- a number that passes stands behind those that pass below it
filter_range-rank : (p : ℕ → Bool) (a k n x : ℕ) → a + k ≡ x → k < n → p x ≡ true →
    slice_get (filter p (range_with_len a n)) (length (filter p (range_with_len a k))) ≡ Some x
filter_range-rank p a zero zero x is below passes = absurd (omega arith)
filter_range-rank p a (suc k) zero x is below passes = absurd (omega arith)
filter_range-rank p a zero (suc n) x is below passes =
    let e : a ≡ x = omega arith in
    ap (λ (q : ℕ). slice_get (cond (p a) (a ∷ filter p (range_with_len (a + 1) n)) (filter p (range_with_len (a + 1) n))) 0) e
    ∙ get-cond_first (p a) a _ (ap p e ∙ passes) ∙ ap Some e
filter_range-rank p a (suc k) (suc n) x is below passes =
    get-cond_behind (p a) a x _ _ (filter_range-rank p (a + 1) k n x (omega arith) (omega arith) passes)

-- the numbers below the next number
pub numbers_below-more : (plan : Plan) (k : ℕ) → numbers_below plan (k + 1) ≡ numbers_below plan k ++ cond (is_there plan k) (k ∷ []) []
numbers_below-more plan k = filter_range-more (is_there plan) 0 k k (omega arith)

-- there are no more segments than numbers
pub length-numbers_below : (plan : Plan) (k : ℕ) → length (numbers_below plan k) ≤ k
length-numbers_below plan k = length-filter_range (is_there plan) 0 k

-- a number in the list is one of a segment that is there
pub record IsNumber (plan : Plan) (k : ℕ) : Type 0 where
  pub below : k < 2 * cells_of plan
  pub there : is_there plan k ≡ true

-- each number in the list is one of a segment that is there
pub numbers_of-within : (plan : Plan) (i k : ℕ) → slice_get (numbers_of plan) i ≡ Some k → IsNumber plan k
numbers_of-within plan i k at =
    let found = filter_range-within (is_there plan) 0 (2 * cells_of plan) i k at in
    record { below = omega (arith, found.0); there = found.1 }

-- a segment that is there stands at its place
pub place_of-is : (plan : Plan) (k : ℕ) → IsNumber plan k →
    (place : ℕ) × (place_of plan k ≡ Some place) × (slice_get (numbers_of plan) place ≡ Some k)
unfolding place_of
place_of-is plan k is =
    let at = filter_range-rank (is_there plan) 0 k (2 * cells_of plan) k (omega arith) is.below is.there in
    (length (numbers_below plan k), ap (λ (b : Bool). cond b (Some (length (numbers_below plan k))) None) is.there, at)

-- a segment that isn't there has no place
pub place_of-none : (plan : Plan) (k : ℕ) → is_there plan k ≡ false → place_of plan k ≡ None
unfolding place_of
place_of-none plan k not_there = ap (λ (b : Bool). cond b (Some (length (numbers_below plan k))) None) not_there

-- the next number stands behind those below it, where the grid has its segment
pub numbers_below-there : (plan : Plan) (k : ℕ) → is_there plan k ≡ true → numbers_below plan (k + 1) ≡ numbers_below plan k ++ k ∷ []
numbers_below-there plan k there = numbers_below-more plan k ∙ ap (λ (b : Bool). numbers_below plan k ++ cond b (k ∷ []) []) there

-- the next number is left out where the grid hasn't its segment
pub numbers_below-not_there : (plan : Plan) (k : ℕ) → is_there plan k ≡ false → numbers_below plan (k + 1) ≡ numbers_below plan k
numbers_below-not_there plan k not_there =
    numbers_below-more plan k ∙ ap (λ (b : Bool). numbers_below plan k ++ cond b (k ∷ []) []) not_there ∙ append-nil (numbers_below plan k)

-- the place of a segment that is there
pub place_of-there : (plan : Plan) (k : ℕ) → is_there plan k ≡ true → place_of plan k ≡ Some (length (numbers_below plan k))
unfolding place_of
place_of-there plan k there = ap (λ (b : Bool). cond b (Some (length (numbers_below plan k))) None) there

-- what is known of a number that was read at a place, where the grid is the one that is kept
pub record ReadsNumber (kept plan : Plan) (i k : ℕ) : Type 0 where
  pub number : IsNumber kept k
  pub segment : slice_get (segments_of plan) i ≡ Some (segment_of kept k)

-- the number that was read at a place is that of the segment there, in one grid
numbers_of-read_here : (plan : Plan) (numbers : List ℕ) (i k : ℕ) → numbers ≡ numbers_of plan → i < length (segments_of plan) →
    k ≡ get_or numbers i k → ReadsNumber plan plan i k
numbers_of-read_here plan numbers i k are within read =
    let short : i < length (numbers_of plan) = omega (arith, length-map (numbers_of plan) (segment_of plan)) in
    let at : slice_get (numbers_of plan) i ≡ Some k =
    slice_get-get_or (numbers_of plan) i k short ∙ ap (λ (xs : List ℕ). Some (get_or xs i k)) (sym are) ∙ ap Some (sym read) in
    record {
      number = numbers_of-within plan i k at;
      segment = slice_get-map (segment_of plan) (numbers_of plan) i ∙ ap (option_map (segment_of plan)) at;
    }

-- the number that was read at a place is that of the segment there
pub numbers_of-read : (kept plan : Plan) (numbers : List ℕ) (i k : ℕ) → kept ≡ plan → numbers ≡ numbers_of kept →
    i < length (segments_of plan) → k ≡ get_or numbers i k → ReadsNumber kept plan i k
numbers_of-read kept plan numbers i k same are within read =
    let P : Plan → Type 0 = λ p. i < length (segments_of p) → ReadsNumber kept p i k in
    subst P same (λ here. numbers_of-read_here kept numbers i k are here read) within

-- a number that has a place is one of a segment that is there, and the place is one of the list's
pub place_of-some : (plan : Plan) (k place : ℕ) → k < 2 * cells_of plan → place_of plan k ≡ Some place →
    (is_there plan k ≡ true) × (place < length (numbers_of plan))
unfolding place_of
place_of-some plan k place below is =
    elim (cases_Bool (is_there plan k)) [
      | inl there ↦
          let found = place_of-is plan k (record { below = below; there = there }) in
          let same : Some found.0 ≡ Some place = sym found.1 ∙ is in
          let place_is : found.0 ≡ place = cc in
          (there, slice_get_within _ _ _ (ap (slice_get (numbers_of plan)) (sym place_is) ∙ found.2))
      | inr not_there ↦
          let none : None ≡ Some place = sym (place_of-none plan k not_there) ∙ is in
          cc
    ]

-- a number that has a place is one of a segment that is there
pub has_place : (plan : Plan) (k place : ℕ) → k < 2 * cells_of plan → place_of plan k ≡ Some place → HasPlace plan k place
has_place plan k place below is =
    let known = place_of-some plan k place below is in
    record { there = known.0; within = omega (arith, known.1, length-map (numbers_of plan) (segment_of plan)) }

-- the places of all numbers, where the grid is the one that is kept
module _ (kept plan : Plan) (places : List (Option ℕ)) (same : kept ≡ plan)
    (are : places ≡ map (place_of kept) (range_with_len 0 (2 * cells_of kept))) where
  -- they are those of the grid's own plan
  of_plan : places ≡ map (place_of plan) (range_with_len 0 (2 * cells_of plan))
  of_plan = subst (λ (p : Plan). places ≡ map (place_of p) (range_with_len 0 (2 * cells_of p))) same are

  -- there is a place for each number
  pub places-length : length places ≡ 2 * cells_of plan
  places-length = ap length of_plan ∙ length-map-range_with_len (place_of plan) 0 (2 * cells_of plan)

  -- the place that was read for a number is its place
  pub place-read : (k : ℕ) (read : Option ℕ) → k < 2 * cells_of plan → read ≡ get_or places k read → read ≡ place_of plan k
  place-read k read below is =
      is ∙ ap (λ (xs : List (Option ℕ)). get_or xs k read) of_plan
      ∙ get_or-map-range_with_len (place_of plan) 0 (2 * cells_of plan) k k read below (omega arith)
