-- Tables of masks leave out no circle that may touch something.
use Rattle.std.proofs.Common.{◌≡◌, ℕ, zero, suc, ◌+◌, ◌-◌, ◌*◌, ◌/◌, ◌%◌, ◌^◌, ◌≤◌, ◌<◌, min, ◌⊎◌, inl, inr, ◌||◌, true, false, List, [], ◌∷◌, ◌++◌, length, get_or, refl, sym, ap, ◌∙◌, subst, arith}
use Rattle.std.specs.Int.{bit_at}
use Rattle.std.specs.Int.RustNames.{bit_or}
use lib.Bits.{bit_and}
use Rattle.std.proofs.Common.{w64}
use Rattle.std.proofs.lemmas.Bool.{cases_eq, cases_lt, or_right}
use Rattle.std.specs.List.{slice_get}
use Rattle.std.specs.Prelude.{Some}
use Rattle.std.proofs.Math.Nat.{div-mul-le_self}
use Rattle.std.proofs.lemmas.Nat.{le-div}
use Rattle.std.proofs.lemmas.Nat.Bits.{bit_at_and, bit_at-zero, bit_at_set_same, bit_at_set_other}
use Rattle.std.proofs.lemmas.List.{get_or_push, get_or_append_left}
use Rattle.std.proofs.lemmas.Option.{slice_get_within}
use Rattle.geo_int.specs.Place.{Place}
use Rattle.geo_int.specs.Spot.{place_of}
use Rattle.geo_int.specs.declared.spots.Spot.{Spot}
use Rattle.nogo_areas.specs.Cuts.{touches_way, any_touches}
use Rattle.nogo_areas.specs.Sides.{IsBeyond, along_of}
use Rattle.nogo_areas.specs.Fences.{step_of, AreBounds, HasReached, IsFence, Clears}
use Rattle.nogo_areas.specs.declared.circle.Circle.{Circle}
use Rattle.nogo_areas.specs.declared.scale.Scale.{Scale}
use Rattle.nogo_areas.specs.declared.sides.Side.{Side}

-- ---- Steps

-- a power of two isn't 0
power_positive : (n : ℕ) → 0 < 2 ^ n
power_positive zero = omega arith
power_positive (suc n) = omega (arith, power_positive n)

-- a quotient grows with its dividend
quotient-grows : (p q k : ℕ) → 0 < k → p ≤ q → p / k ≤ q / k
quotient-grows p q k some less = le-div (p / k) q k some (omega (arith, div-mul-le_self p k))

-- the larger distance has no earlier step
pub step-grows : (scale : Scale) (p q : ℕ) → p ≤ q → step_of scale p ≤ step_of scale q
unfolding step_of
step-grows scale p q less =
    omega (arith, quotient-grows (p - scale.first) (q - scale.first) (2 ^ scale.shift) (power_positive scale.shift) (omega arith))

-- there are 1,024 steps
pub step-within : (scale : Scale) (p : ℕ) → step_of scale p < 1024
unfolding step_of
step-within scale p = omega arith

-- ---- Masks

-- a table whose masks have the circles that are reached is right
pub fence-sound : (side : Side) (scale : Scale) (masks bounds : List ℕ) (circles : List Circle) → AreBounds side circles bounds →
    ((step : ℕ) → step < 1024 → HasReached scale bounds step (get_or masks step 0)) → IsFence side scale masks circles
fence-sound side scale masks bounds circles are reached = record {
  beyond = λ k circle few there distance clear. chosen k circle few there distance clear (cases_lt distance (get_or bounds k 0));
}
  where
    chosen : (k : ℕ) (circle : Circle) → k < 64 → slice_get circles k ≡ Some circle → (distance : ℕ) →
        bit_at (get_or masks (step_of scale distance) 0) k ≡ 0 → (distance < get_or bounds k 0) ⊎ (get_or bounds k 0 ≤ distance) →
        IsBeyond side circle distance
    chosen k circle few there distance clear (inl more) = are.beyond k circle there distance more
    chosen k circle few there distance clear (inr within) =
        let set = (reached (step_of scale distance) (step-within scale distance)).reached k few
        (omega (arith, are.same, slice_get_within circles k circle there))
        (step-grows scale (get_or bounds k 0) distance within) in
        absurd (omega (arith, set, clear))

-- the first so many bounds that are reached have their bits
abbrev pub ReachedBelow : Scale → List ℕ → ℕ → ℕ → ℕ → Type 0
ReachedBelow scale bounds step k mask = (j : ℕ) → j < k → step_of scale (get_or bounds j 0) ≤ step → bit_at mask j ≡ 1

-- one more bound that is reached
pub mask-set : (scale : Scale) (bounds : List ℕ) (step k mask : ℕ) → k < 64 → ReachedBelow scale bounds step k mask →
    ReachedBelow scale bounds step (k + 1) (bit_or mask (1 * 2 ^ k % 2 ^ 64))
mask-set scale bounds step k mask few before j below reached = elim (cases_eq j k) [
  | inl same ↦ ap (λ i. bit_at (bit_or mask (1 * 2 ^ k % 2 ^ 64)) i) same ∙ bit_at_set_same w64 mask k few
  | inr other ↦ bit_at_set_other w64 mask k few j other ∙ before j (omega (arith, other)) reached
]

-- one more bound that isn't reached
pub mask-kept : (scale : Scale) (bounds : List ℕ) (step k mask : ℕ) → step < step_of scale (get_or bounds k 0) →
    ReachedBelow scale bounds step k mask → ReachedBelow scale bounds step (k + 1) mask
mask-kept scale bounds step k mask later before j below reached = elim (cases_eq j k) [
  | inl same ↦ let h : step_of scale (get_or bounds k 0) ≤ step = subst (λ i. step_of scale (get_or bounds i 0) ≤ step) same reached in
      absurd (omega arith)
  | inr other ↦ before j (omega (arith, other)) reached
]

-- what both of two masks clear
pub clears-and : (circles : List Circle) (a b : Spot) (m n : ℕ) → Clears circles a b m → Clears circles a b n →
    Clears circles a b (bit_and m n)
clears-and circles a b m n first second = record {
  untouched = λ k circle few there clear. chosen k circle few there (sym (bit_at_and m n k) ∙ clear) (cases_lt (bit_at m k) (bit_at n k));
}
  where
    chosen : (k : ℕ) (circle : Circle) → k < 64 → slice_get circles k ≡ Some circle → min (bit_at m k) (bit_at n k) ≡ 0 →
        (bit_at m k < bit_at n k) ⊎ (bit_at n k ≤ bit_at m k) → touches_way (place_of a) (place_of b) circle ≡ false
    chosen k circle few there clear (inl less) = first.untouched k circle few there (omega arith)
    chosen k circle few there clear (inr more) = second.untouched k circle few there (omega arith)

-- a way that isn't farther from the edge than a distance clears what the distance clears
pub fence-clears : (side : Side) (scale : Scale) (masks : List ℕ) (circles : List Circle) (a b : Spot) (farther : ℕ) →
    IsFence side scale masks circles → along_of side a ≤ farther → along_of side b ≤ farther →
    Clears circles a b (get_or masks (step_of scale farther) 0)
fence-clears side scale masks circles a b farther sound first second = record {
  untouched = λ k circle few there clear. (sound.beyond k circle few there farther clear).untouched a b first second;
}

-- one more circle with its bound
pub bounds-more : (side : Side) (circles : List Circle) (bounds new : List ℕ) (k : ℕ) (circle : Circle) (bound : ℕ) → length bounds ≡ k →
    slice_get circles k ≡ Some circle → ((distance : ℕ) → distance < bound → IsBeyond side circle distance) → new ≡ bounds ++ bound ∷ [] →
    ((j : ℕ) (other : Circle) → j < k → slice_get circles j ≡ Some other → (distance : ℕ) → distance < get_or bounds j 0 →
    IsBeyond side other distance) →
    (j : ℕ) (other : Circle) → j < k + 1 → slice_get circles j ≡ Some other → (distance : ℕ) → distance < get_or new j 0 →
    IsBeyond side other distance
bounds-more side circles bounds new k circle bound long there beyond is before j other below found distance less = elim (cases_eq j k) [
  | inl same ↦
      let e : other ≡ circle = cc in
      let last : get_or new j 0 ≡ bound = ap (λ xs. get_or xs j 0) is ∙ get_or_push bounds bound 0 j (long ∙ sym same) in
      subst (λ x. IsBeyond side x distance) (sym e) (beyond distance (omega (arith, last)))
  | inr apart ↦
      let within : j < k = omega (arith, apart) in
      let first : get_or new j 0 ≡ get_or bounds j 0 = ap (λ xs. get_or xs j 0) is
      ∙ get_or_append_left bounds (bound ∷ []) 0 j (omega (arith, long)) in
      before j other within found distance (omega (arith, first))
]

-- ---- Ways

-- one more circle that doesn't touch a way
pub untouched-more : (a b : Place) (circles : List Circle) (k : ℕ) (circle : Circle) → slice_get circles k ≡ Some circle →
    touches_way a b circle ≡ false →
    ((j : ℕ) (other : Circle) → j < k → slice_get circles j ≡ Some other → touches_way a b other ≡ false) →
    (j : ℕ) (other : Circle) → j < k + 1 → slice_get circles j ≡ Some other → touches_way a b other ≡ false
untouched-more a b circles k circle there misses before j other below found = elim (cases_eq j k) [
  | inl same ↦
      let e : other ≡ circle = cc in
      ap (touches_way a b) e ∙ misses
  | inr apart ↦ before j other (omega (arith, apart)) found
]

-- no circle touches a way that each circle doesn't touch
pub none-touches : (a b : Place) (circles : List Circle) →
    ((k : ℕ) (circle : Circle) → slice_get circles k ≡ Some circle → touches_way a b circle ≡ false) →
    any_touches a b circles ≡ false
none-touches a b [] h = refl
none-touches a b (circle ∷ circles) h =
    ap (λ t. t || any_touches a b circles) (h 0 circle refl) ∙ none-touches a b circles (λ k other there. h (suc k) other there)

-- some circle touches a way that one circle touches
pub some-touches : (a b : Place) (circles : List Circle) (k : ℕ) (circle : Circle) → slice_get circles k ≡ Some circle →
    touches_way a b circle ≡ true →
    any_touches a b circles ≡ true
some-touches a b [] k circle there touches = cc
some-touches a b (first ∷ circles) zero circle there touches =
    let e : first ≡ circle = cc in
    ap (λ t. t || any_touches a b circles) (ap (touches_way a b) e ∙ touches)
some-touches a b (first ∷ circles) (suc k) circle there touches =
    or_right (touches_way a b first) (any_touches a b circles) (some-touches a b circles k circle there touches)

-- an empty mask clears every way of few circles
pub empty-clears : (circles : List Circle) (a b : Spot) (mask : ℕ) → mask ≡ 0 → length circles ≤ 64 → Clears circles a b mask →
    any_touches (place_of a) (place_of b) circles ≡ false
empty-clears circles a b mask empty few clears = none-touches (place_of a) (place_of b) circles (λ k circle there.
    clears.untouched k circle (omega (arith, slice_get_within circles k circle there)) there (ap (λ m. bit_at m k) empty ∙ bit_at-zero k))
