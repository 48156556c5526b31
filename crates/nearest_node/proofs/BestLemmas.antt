-- The best of all nodes is where a waypoint is moved.
use Rattle.std.proofs.Common.{◌≡◌, ℕ, ◌+◌, ◌-◌, ◌*◌, ◌/◌, ◌%◌, ◌^◌, ◌<◌, ◌≤◌, ◌-ℤ◌, unsigned_abs, List, length, get_or, Some, None, ap, subst, sym, ◌∙◌, arith, inl, inr}
use Rattle.std.proofs.lemmas.Bool.{cases_lt}
use Rattle.std.proofs.lemmas.Int.{ints}
use Rattle.geo_int.specs.Place.{Place}
use Rattle.geo_int.specs.Spot.{place_of}
use Rattle.geo_int.specs.declared.spots.Spot.{Spot}
use Rattle.nearest_node.specs.Best.{IsBest, IsFirstOf, no_rank, rank_of}
use Rattle.nearest_node.specs.Index.{IsIndex, height_of}
use Rattle.nearest_node.specs.Nearest.{IsMovedTo, distance_to}
use Rattle.nearest_node.proofs.IndexLemmas.{key-number, key-latitude, index-key, index-node, index-rising}
use Rattle.nearest_node.proofs.DistanceLemmas.{far-off, heights-apart, heights-back}

-- what is searched: so many nodes at these places, of which some are let through, and their index
pub record IsSearched (count : ℕ) (places : ℕ → Place) (keys : List ℕ) : Type 0 where
  pub few : count ≤ 2 ^ 32
  pub index : IsIndex count places keys

-- the node of a key
pub record IsKeyOf (count : ℕ) (places : ℕ → Place) (key : ℕ) : Type 0 where
  pub number : key % 2 ^ 32 < count
  pub latitude : key / 2 ^ 32 ≡ height_of (places (key % 2 ^ 32))

-- each key has its node
pub key-is : (count : ℕ) (places : ℕ → Place) (keys : List ℕ) → IsSearched count places keys → (k : ℕ) → k < length keys →
    IsKeyOf count places (get_or keys k 0)
key-is count places keys is k below =
    let there = index-key count places keys is.index k below in
    let small : there.0 < 2 ^ 32 = omega (arith, is.few, there.1) in
    let number : get_or keys k 0 % 2 ^ 32 ≡ there.0 = ap (λ n. n % 2 ^ 32) there.2 ∙ key-number places there.0 small in
    record {
      number = subst (λ n. n < count) (sym number) there.1;
      latitude = ap (λ n. n / 2 ^ 32) there.2 ∙ key-latitude places there.0 small ∙ ap (λ n. height_of (places n)) (sym number);
    }

-- the latitude of a spot is its height
pub spot-height : (at : Spot) → height_of (place_of at) ≡ at.ilat
spot-height at = omega (arith, ints)

-- a node so far off ranks behind
pub far-ranks : (places : ℕ → Place) (at : Place) (node apart best : ℕ) → best ≤ no_rank →
    apart ≤ unsigned_abs ((places node).lat -ℤ at.lat) → best / 2 ^ 32 < apart * 11132 / 100 → best ≤ rank_of places at node
unfolding rank_of
far-ranks places at node apart best most within far =
    let off = far-off at (places node) apart (best / 2 ^ 32) (omega (arith, most)) within far in
    omega (arith, off)

-- where a key lies too far north, no key from it on ranks before the best
pub rest-north : (count : ℕ) (places : ℕ → Place) (keys : List ℕ) (at : Place) (place best : ℕ) → IsSearched count places keys →
    best ≤ no_rank → best / 2 ^ 32 < (get_or keys place 0 / 2 ^ 32 - height_of at) * 11132 / 100 →
    (k : ℕ) → place ≤ k → k < length keys → best ≤ rank_of places at (get_or keys k 0 % 2 ^ 32)
rest-north count places keys at place best is most far k after below =
    let key = key-is count places keys is k below in
    let up = index-rising count places keys is.index place k after below in
    let node = get_or keys k 0 % 2 ^ 32 in
    let higher : get_or keys place 0 / 2 ^ 32 ≤ height_of (places node) = omega (arith, up, key.latitude) in
    let apart = heights-apart at (places node) in
    far-ranks places at node (height_of (places node) - height_of at) best most apart (omega (arith, higher, far))

-- where a key lies too far south, no key up to it ranks before the best
pub rest-south : (count : ℕ) (places : ℕ → Place) (keys : List ℕ) (at : Place) (place best : ℕ) → IsSearched count places keys →
    best ≤ no_rank → best / 2 ^ 32 < (height_of at - get_or keys place 0 / 2 ^ 32) * 11132 / 100 → place < length keys →
    (k : ℕ) → k ≤ place → best ≤ rank_of places at (get_or keys k 0 % 2 ^ 32)
rest-south count places keys at place best is most far there k before =
    let below : k < length keys = omega (arith, there, before) in
    let key = key-is count places keys is k below in
    let up = index-rising count places keys is.index k place before there in
    let node = get_or keys k 0 % 2 ^ 32 in
    let lower : height_of (places node) ≤ get_or keys place 0 / 2 ^ 32 = omega (arith, up, key.latitude) in
    let apart = heights-back at (places node) in
    far-ranks places at node (height_of at - height_of (places node)) best most apart (omega (arith, lower, far))

-- the best of all keys ranks before each node that is let through
pub best-first : (count : ℕ) (places : ℕ → Place) (may : ℕ → Type 0) (at : Place) (keys : List ℕ) (best : ℕ) →
    IsSearched count places keys → IsFirstOf places may at keys 0 (length keys) best →
    (node : ℕ) → node < count → may node → best ≤ rank_of places at node
best-first count places may at keys best is first node below let_through =
    let there = index-node count places keys is.index node below in
    let number : get_or keys there.0 0 % 2 ^ 32 ≡ node =
    ap (λ n. n % 2 ^ 32) there.2 ∙ key-number places node (omega (arith, is.few, below)) in
    subst (λ n. best ≤ rank_of places at n) number
    (first there.0 (omega arith) there.1 (subst may (sym number) let_through))

-- so it is where a waypoint is moved, where it is a node
pub moved-there : (count : ℕ) (places : ℕ → Place) (may : ℕ → Type 0) (at : Place) (keys : List ℕ) (best : ℕ) →
    IsSearched count places keys → IsBest count places may at best → IsFirstOf places may at keys 0 (length keys) best →
    best < no_rank → IsMovedTo count places may at (Some (best % 2 ^ 32))
unfolding rank_of
moved-there count places may at keys best is good first some =
    let node = best % 2 ^ 32 in
    let self : best ≡ distance_to places at node * 2 ^ 32 + node = good.is some in
    let small : node < 2 ^ 32 = omega (arith, is.few, good.in_range some) in (
      record {
        in_range = good.in_range some;
        let_through = good.let_through some;
        nearest = λ other below lets. omega (
          arith,
          self,
          small,
          best-first count places may at keys best is first other below lets,
          is.few,
          below,
        );
        first = λ other below lets same. omega (arith, self, same, best-first count places may at keys best is first other below lets);
      },
      omega (arith, self, some),
    )

-- and where it is none, no node lies near enough
pub moved-none : (count : ℕ) (places : ℕ → Place) (may : ℕ → Type 0) (at : Place) (keys : List ℕ) (best : ℕ) →
    IsSearched count places keys → IsFirstOf places may at keys 0 (length keys) best → no_rank ≤ best →
    IsMovedTo count places may at None
unfolding rank_of
moved-none count places may at keys best is first none node below lets =
    omega (arith, none, is.few, below, best-first count places may at keys best is first node below lets)

-- what was looked at and what lies beyond a key that is too far north, together
pub first-stopped : (count : ℕ) (places : ℕ → Place) (may : ℕ → Type 0) (at : Spot) (keys : List ℕ) (start place best : ℕ) →
    IsSearched count places keys → best ≤ no_rank → IsFirstOf places may (place_of at) keys start place best →
    best / 2 ^ 32 < (get_or keys place 0 / 2 ^ 32 - at.ilat) * 11132 / 100 →
    IsFirstOf places may (place_of at) keys start (length keys) best
first-stopped count places may at keys start place best is most first far k after below lets =
    elim (cases_lt k place) [
      | inl before ↦ first k after before lets
      | inr behind ↦
          rest-north count places keys (place_of at) place best is most (omega (arith, far, spot-height at)) k (omega (arith, behind)) below
    ]

-- and beyond one that is too far south
pub last-stopped : (count : ℕ) (places : ℕ → Place) (may : ℕ → Type 0) (at : Spot) (keys : List ℕ) (start place best : ℕ) →
    IsSearched count places keys → best ≤ no_rank → place < length keys →
    IsFirstOf places may (place_of at) keys (place + 1) start best →
    best / 2 ^ 32 < (at.ilat - get_or keys place 0 / 2 ^ 32) * 11132 / 100 →
    IsFirstOf places may (place_of at) keys 0 start best
last-stopped count places may at keys start place best is most there first far k after below lets =
    elim (cases_lt place k) [
      | inl behind ↦ first k (omega (arith, behind)) below lets
      | inr before ↦
          rest-south count places keys (place_of at) place best is most (omega (arith, far, spot-height at)) there k (omega (arith, before))
    ]

-- one more key behind those that were looked at
pub first-more : (places : ℕ → Place) (may : ℕ → Type 0) (at : Place) (keys : List ℕ) (start place best next : ℕ) →
    IsFirstOf places may at keys start place best → next ≤ best →
    (may (get_or keys place 0 % 2 ^ 32) → next ≤ rank_of places at (get_or keys place 0 % 2 ^ 32)) →
    IsFirstOf places may at keys start (place + 1) next
first-more places may at keys start place best next first less here k after below lets =
    elim (cases_lt k place) [
      | inl before ↦ omega (arith, less, first k after before lets)
      | inr behind ↦
          let same : place ≡ k = omega (arith, behind, below) in
          subst (λ j. next ≤ rank_of places at (get_or keys j 0 % 2 ^ 32)) same
          (here (subst (λ j. may (get_or keys j 0 % 2 ^ 32)) (sym same) lets))
    ]

-- one more key before them
pub first-before : (places : ℕ → Place) (may : ℕ → Type 0) (at : Place) (keys : List ℕ) (start place best next : ℕ) →
    IsFirstOf places may at keys (place + 1) start best → next ≤ best →
    (may (get_or keys place 0 % 2 ^ 32) → next ≤ rank_of places at (get_or keys place 0 % 2 ^ 32)) →
    IsFirstOf places may at keys place start next
first-before places may at keys start place best next first less here k after below lets =
    elim (cases_lt place k) [
      | inl behind ↦ omega (arith, less, first k (omega (arith, behind)) below lets)
      | inr before ↦
          let same : place ≡ k = omega (arith, before, after) in
          subst (λ j. next ≤ rank_of places at (get_or keys j 0 % 2 ^ 32)) same
          (here (subst (λ j. may (get_or keys j 0 % 2 ^ 32)) (sym same) lets))
    ]

-- what both loops looked at is all
pub first-both : (places : ℕ → Place) (may : ℕ → Type 0) (at : Place) (keys : List ℕ) (start best next : ℕ) →
    IsFirstOf places may at keys start (length keys) best → IsFirstOf places may at keys 0 start next → next ≤ best →
    IsFirstOf places may at keys 0 (length keys) next
first-both places may at keys start best next behind before less k after below lets =
    elim (cases_lt k start) [
      | inl front ↦ before k after front lets
      | inr back ↦ omega (arith, less, behind k (omega (arith, back)) below lets)
    ]
