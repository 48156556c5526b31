-- What a search by an id finds among connections in the order of their ids.
use Rattle.std.proofs.Common.{◌≡◌, ◌≢◌, ◌<◌, ◌≤◌, ℕ, zero, suc, true, false, List, [], ◌∷◌, length, get_or, take, drop, Option, Some, None, Result, Ok, Err, IfOk, IfErr, refl, sym, ◌∙◌, ap, subst, arith}
use Rattle.std.specs.List.Sorted.{IsBinarySearchResult, IsNonDecreasingBy, IsSearchInRange}
use Rattle.std.specs.Ordering.{nat_cmp, ordering_index}
use Rattle.std.specs.Prelude.{slice_get}
use Rattle.std.proofs.lemmas.Bool.Decides.{nat_tests}
use Rattle.std.proofs.lemmas.Cmp.{ranked}
use Rattle.std.proofs.lemmas.Option.{slice_get_read, slice_get_within}
use Rattle.hall.proofs.PeerLemmas.{known_gap, known_place}
use Rattle.hall.specs.Parts.{AreAbove, AreAscending, AreBelow, IsAt, IsGapFor, IsReadBy, IsReaderOf, connection_of}
use Rattle.hall.specs.State.{Connection, Reading}
use Rattle.hall.specs.declared.peer.Peer.{Peer}

above_get : (id : ℕ) (peers : List Peer) (j : ℕ) (d : Peer) → AreAbove id peers → j < length peers → id < (get_or peers j d).id
above_get id [] j d all within = absurd (omega (arith, within))
above_get id (x ∷ peers) zero d all within = all.0
above_get id (x ∷ peers) (suc j) d all within = above_get id peers j d all.1 (omega (arith, within))

-- the ids rise from place to place
ids_rise : (peers : List Peer) (i j : ℕ) (d : Peer) → AreAscending peers → i ≤ j → j < length peers →
    (get_or peers i d).id ≤ (get_or peers j d).id
ids_rise [] i j d all le within = absurd (omega (arith, within))
ids_rise (x ∷ peers) zero zero d all le within = omega arith
ids_rise (x ∷ peers) zero (suc j) d all le within =
    omega (arith, above_get x.id peers j d all.0 (omega (arith, within)))
ids_rise (x ∷ peers) (suc i) zero d all le within = absurd (omega (arith, le))
ids_rise (x ∷ peers) (suc i) (suc j) d all le within =
    ids_rise peers i j d all.1 (omega (arith, le)) (omega (arith, within))

below_from : (peers : List Peer) (id k : ℕ) → ((j : ℕ) (d : Peer) → j < length peers → j < k → (get_or peers j d).id < id) →
    AreBelow id (take k peers)
below_from peers id zero all = tt
below_from [] id (suc k) all = tt
below_from (x ∷ peers) id (suc k) all = (
  all 0 x (omega arith) (omega arith),
  below_from peers id k (λ j d within less. all (suc j) d (omega (arith, within)) (omega (arith, less))),
)

above_from : (peers : List Peer) (id k : ℕ) → ((j : ℕ) (d : Peer) → k ≤ j → j < length peers → id < (get_or peers j d).id) →
    AreAbove id (drop k peers)
above_from [] id zero all = tt
above_from [] id (suc k) all = tt
above_from (x ∷ peers) id zero all =
    (all 0 x (omega arith) (omega arith), above_from peers id zero (λ j d le within. all (suc j) d (omega arith) (omega (arith, within))))
above_from (x ∷ peers) id (suc k) all =
    above_from peers id k (λ j d le within. all (suc j) d (omega (arith, le)) (omega (arith, within)))

-- who stands at a place that is there
stands : (peers : List Peer) (k : ℕ) → k < length peers → (x : Peer) × (slice_get peers k ≡ Some x) × (get_or peers k x ≡ x)
stands [] k within = absurd (omega (arith, within))
stands (x ∷ peers) zero within = (x, refl, refl)
stands (x ∷ peers) (suc k) within = stands peers k (omega (arith, within))

-- what a search answers
pub record Finds (peers : List Peer) (id : ℕ) (answer : Result ℕ ℕ) : Type 0 where
  pub found : IfOk answer (IsAt peers id)
  pub absent : IfErr answer (IsGapFor peers id)

module _ (peers : List Peer) (all : AreAscending peers) (id : ℕ) where
  -- the comparisons with an id rise
  comparisons_rise : IsNonDecreasingBy (λ (peer : Peer). ordering_index (nat_cmp peer.id id)) peers
  comparisons_rise i j d le within =
      let rise = ids_rise peers i j d all le within in
      grind (arith, nat_tests, rise)

  -- a binary search ends at the connection, or where it would stand
  pub searched : (answer : Result ℕ ℕ) → IsSearchInRange answer (length peers) →
      IsBinarySearchResult (λ (peer : Peer). nat_cmp peer.id id) peers answer → Finds peers id answer
  searched (Ok k) within equal =
      let there = stands peers k within in
      record {
        found = record {
          peer = there.0;
          there = there.1;
          own = subst (λ (x : Peer). x.id ≡ id) there.2 (ranked (get_or peers k there.0).id id _ (sym (equal there.0)));
        };
        absent = tt;
      }
  searched (Err k) within parted = record {
    found = tt;
    absent = record {
      within = within;
      below = below_from peers id k
          (λ j d there less. ranked (get_or peers j d).id id _ (sym ((parted comparisons_rise).0 j d (omega arith) less)));
      above = above_from peers id k
          (λ j d le there. ranked (get_or peers j d).id id _ (sym ((parted comparisons_rise).1 j d le there)));
    };
  }

-- a place is there
pub at_within : (peers : List Peer) (id k : ℕ) → IsAt peers id k → k < length peers
at_within peers id k place = slice_get_within peers k place.peer place.there

-- who is read at the place of a connection is it
pub at_read : (peers : List Peer) (id k : ℕ) (x : Peer) (place : IsAt peers id k) → x ≡ get_or peers k x → x ≡ place.peer
at_read peers id k x place read =
    let same : Some x ≡ Some place.peer = sym (slice_get_read peers (length peers) k x refl (at_within peers id k place) read) ∙ place.there in
    cc

-- and stands there
pub at_here : (peers : List Peer) (id k : ℕ) (x : Peer) (place : IsAt peers id k) → x ≡ get_or peers k x →
    (slice_get peers k ≡ Some x) × (x.id ≡ id)
at_here peers id k x place read =
    let same = at_read peers id k x place read in
    (place.there ∙ ap (λ (y : Peer). Some y) (sym same), ap (λ (y : Peer). y.id) same ∙ place.own)

-- one that isn't held isn't read, nor is one that is farther
pub reader_none : (peers : List Peer) (id k : ℕ) → IsGapFor peers id k → IsReaderOf peers id None
reader_none peers id k gap c known = let clash : Some c ≡ None = sym known ∙ known_gap peers id k gap in cc

pub reader_unread : (peers : List Peer) (id k : ℕ) (x : Peer) → AreAscending peers → (place : IsAt peers id k) → x ≡ get_or peers k x →
    IsReadBy x.phase false → IsReaderOf peers id None
reader_unread peers id k x all place read unread c known =
    let one : Some (connection_of place.peer) ≡ Some c = sym (known_place peers id k all place) ∙ known in
    let same : connection_of place.peer ≡ c = cc in
    subst (λ (d : Connection). d.phase ≢ Reading) (ap connection_of (at_read peers id k x place read) ∙ same) (unread.1 refl)

pub reader_found : (peers : List Peer) (id k : ℕ) (x : Peer) → (place : IsAt peers id k) → x ≡ get_or peers k x →
    IsReadBy x.phase true → IsReaderOf peers id (Some k)
reader_found peers id k x place read reads = record {
  place = place;
  reads = ap (λ (y : Peer). y.phase) (sym (at_read peers id k x place read)) ∙ reads.0 refl;
}
