-- The places of the links that arrive at a node.
use Rattle.std.proofs.Common.{◌≡◌, ◌≢◌, ℕ, zero, suc, ◌+◌, ◌<◌, ◌≤◌, ◌⊎◌, inl, inr, List, [], ◌∷◌, ◌++◌, length, get_or, refl, sym, ap, ◌∙◌, subst, eq-eqb, ◌^◌, arith}
use Rattle.std.proofs.lemmas.Bool.{cases_eq, ne_eqb}
use Rattle.overpass_graph.specs.Roads.{IsRoads, Roads, out_links, places_below, twin_of}
use Rattle.overpass_graph.proofs.CallerLemmas.{out-sound, out-whole, twin-twin}
use Rattle.link_hierarchy.specs.Rows.{IsSorted}
use Rattle.link_hierarchy.specs.Walks.{Holds}
use Rattle.link_hierarchy.proofs.CallerLemmas.{sorted-more, sorted-none}
use Rattle.ride_bounds.specs.Bounds.{IsNext, IsNextOf, targets_of}
use Rattle.link_order.specs.Orders.{IsOrder, Order, link_at, place_of}

-- a number with the value is the next place
places-hit : (key : ℕ → ℕ) (v n : ℕ) → key n ≡ v → places_below key v (suc n) ≡ places_below key v n ++ n ∷ []
unfolding places_below
places-hit key v n same = rw (eq-eqb (key n) v same) refl

-- a number with another value is none
places-miss : (key : ℕ → ℕ) (v n : ℕ) → key n ≢ v → places_below key v (suc n) ≡ places_below key v n
unfolding places_below
places-miss key v n other = rw (ne_eqb (key n) v other) refl

-- below 0 there is none
pub places-none : (key : ℕ → ℕ) (v : ℕ) → places_below key v 0 ≡ []
unfolding places_below
places-none key v = refl

-- a place is below the count, and has the value
pub places-sound : (key : ℕ → ℕ) (v n j : ℕ) → j < length (places_below key v n) →
    (get_or (places_below key v n) j 0 < n) × (key (get_or (places_below key v n) j 0) ≡ v)
places-sound key v n j below = out-sound (record { nodes = 0; links = n; from = key; to = key }) v j below

-- a number below the count with the value is a place
pub places-whole : (key : ℕ → ℕ) (v n x : ℕ) → x < n → key x ≡ v → Holds (places_below key v n) x
places-whole key v n x below same =
    let w = out-whole (record { nodes = 0; links = n; from = key; to = key }) v x below same in
    record { place = w.0; within = w.1; is = w.2 }

-- places ascend
pub places-sorted : (key : ℕ → ℕ) (v n nodes : ℕ) → n ≤ nodes → IsSorted nodes (places_below key v n)
places-sorted key v zero nodes most = subst (IsSorted nodes) (sym (places-none key v)) (sorted-none nodes)
places-sorted key v (suc n) nodes most =
    let before = places-sorted key v n nodes (omega (arith, most)) in
    elim (cases_eq (key n) v) [
      | inl hit ↦
          subst (IsSorted nodes) (sym (places-hit key v n hit))
          (sorted-more nodes (places_below key v n) n before (omega (arith, most)) (λ i i_in. (places-sound key v n i i_in).0))
      | inr miss ↦ subst (IsSorted nodes) (sym (places-miss key v n miss)) before
    ]

-- where no number has the value from one on, there are no more places
pub places-skip : (key : ℕ → ℕ) (v from n : ℕ) → from ≤ n → ((x : ℕ) → from ≤ x → x < n → key x ≢ v) →
    places_below key v n ≡ places_below key v from
places-skip key v from zero most none = let same : zero ≡ from = omega (arith, most) in ap (places_below key v) same
places-skip key v from (suc n) most none =
    elim (cases_eq from (suc n)) [
      | inl same ↦ ap (places_below key v) (sym same)
      | inr other ↦
          let below : from ≤ n = omega (arith, most, other) in
          places-miss key v n (none n below (omega arith))
          ∙ places-skip key v from n below (λ x low x_in. none x low (omega (arith, x_in)))
    ]

module _ (roads : Roads) (order : Order) (target : ℕ) where
  -- the next place is the next one of the list
  pub targets-more : (made : List ℕ) (from next : ℕ) → made ≡ places_below (λ place. roads.to (link_at order place)) target from →
      IsNext roads order target from next → next < roads.links → roads.links < 2 ^ 32 →
      made ++ next ∷ [] ≡ places_below (λ place. roads.to (link_at order place)) target (next + 1)
  targets-more made from next is is_next inside few =
      let there = is_next.arrives (omega (arith, inside, few)) in
      let skip = places-skip (λ place. roads.to (link_at order place)) target from next there.0
      (λ x low x_in same. absurd (omega (arith, x_in, is_next.all x low (omega (arith, x_in, inside)) same))) in
      let more : suc next ≡ next + 1 = omega arith in
      ap (λ (l : List ℕ). l ++ next ∷ []) (is ∙ sym skip)
      ∙ sym (places-hit (λ place. roads.to (link_at order place)) target next there.2)
      ∙ ap (places_below (λ place. roads.to (link_at order place)) target) more

  -- there is no next one
  pub targets-end : (made : List ℕ) (from next : ℕ) → made ≡ places_below (λ place. roads.to (link_at order place)) target from →
      IsNext roads order target from next → from ≤ roads.links → roads.links ≤ next → made ≡ targets_of order roads target
  targets-end made from next is is_next inside behind =
      is ∙ sym (places-skip (λ place. roads.to (link_at order place)) target from roads.links inside
      (λ x low x_in same. absurd (omega (arith, x_in, is_next.all x low x_in same, behind))))

  module _ (is_roads : IsRoads roads) (is_order : IsOrder order) (counted : length order.links ≡ roads.links) (from : ℕ) where
    -- none was looked at
    pub next-begin : (next : ℕ) → next ≡ 0xffff_ffff →
        IsNextOf roads order target from 0 next (λ k. twin_of (get_or (out_links roads target) k 0))
    next-begin next is = record {
      all = λ k below low. absurd (omega (arith, below));
      arrives = λ less. absurd (omega (arith, less, is));
    }

    -- a link that leaves the target has a way back
    pub back-in : (k : ℕ) → k < length (out_links roads target) → twin_of (get_or (out_links roads target) k 0) < length order.links
    back-in k below =
        let sound = out-sound roads target k below in
        omega (arith, counted, is_roads.twin_in (get_or (out_links roads target) k 0) sound.0)

    -- one more was
    pub next-more : (k old new place : ℕ) → k < length (out_links roads target) →
        place ≡ place_of order (twin_of (get_or (out_links roads target) k 0)) → new ≤ old → (from ≤ place → new ≤ place) →
        ((new ≡ old) ⊎ ((new ≡ place) × (from ≤ place))) →
        IsNextOf roads order target from k old (λ k. twin_of (get_or (out_links roads target) k 0)) →
        IsNextOf roads order target from (k + 1) new (λ k. twin_of (get_or (out_links roads target) k 0))
    next-more k old new place inside place_is most low one was = record {
      all = λ j below from_low.
          elim (cases_eq j k) [
            | inl same ↦
                let here : place_of order (twin_of (get_or (out_links roads target) j 0)) ≡ place =
                ap (λ n. place_of order (twin_of (get_or (out_links roads target) n 0))) same ∙ sym place_is in
                omega (arith, here, low (omega (arith, here, from_low)))
            | inr other ↦ omega (arith, most, was.all j (omega (arith, below, other)) from_low)
          ];
      arrives = λ less.
          elim one [
            | inl same ↦
                let there = was.arrives (omega (arith, less, same)) in (
                  omega (arith, there.0, same),
                  omega (arith, there.1, same),
                  ap (λ n. roads.to (link_at order n)) same ∙ there.2,
                )
            | inr here ↦
                let sound = out-sound roads target k inside in
                let twin_in = back-in k inside in
                let place_in = is_order.place_in (twin_of (get_or (out_links roads target) k 0)) twin_in in
                let link_is : link_at order new ≡ twin_of (get_or (out_links roads target) k 0) =
                ap (link_at order) (here.0 ∙ place_is) ∙ is_order.link_is (twin_of (get_or (out_links roads target) k 0)) twin_in in (
                  omega (arith, here.0, here.1),
                  omega (arith, here.0, place_is, place_in, counted),
                  ap roads.to link_is ∙ is_roads.twin_to (get_or (out_links roads target) k 0) sound.0 ∙ sound.1,
                )
          ];
    }

    -- all were
    pub next-end : (count next : ℕ) → length (out_links roads target) ≤ count →
        IsNextOf roads order target from count next (λ k. twin_of (get_or (out_links roads target) k 0)) → IsNext roads order target from next
    next-end count next all is = record {
      all = λ place low place_in arrived.
          let place_below : place < length order.links = omega (arith, counted, place_in) in
          let link_in : link_at order place < roads.links = omega (arith, counted, is_order.link_in place place_below) in
          let w = out-whole roads target (twin_of (link_at order place)) (is_roads.twin_in (link_at order place) link_in)
          (is_roads.twin_from (link_at order place) link_in ∙ arrived) in
          let place_is : place_of order (twin_of (get_or (out_links roads target) w.0 0)) ≡ place =
          ap (λ n. place_of order (twin_of n)) w.2 ∙ ap (place_of order) (twin-twin (link_at order place)) ∙ is_order.place_is place place_below in
          let most = is.all w.0 (omega (arith, w.1, all)) (omega (arith, low, place_is)) in
          omega (arith, most, place_is);
      arrives = is.arrives;
    }
