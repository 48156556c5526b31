-- Connections in the order of their ids: who is one of them, and what becomes of them where one changes.
use Rattle.std.proofs.Common.{◌≡◌, ◌≢◌, ◌⊎◌, ◌<◌, ◌==◌, ℕ, zero, suc, Bool, cond, List, [], ◌∷◌, ◌++◌, set, take, drop, Option, Some, None, option_map, inl, inr, refl, sym, ◌∙◌, ap, subst, arith, eq-eqb}
use Rattle.std.specs.Prelude.{slice_get}
use Rattle.std.specs.List.{insert, remove}
use Rattle.std.proofs.lemmas.Bool.{cases_eq, ne_eqb}
use Rattle.std.proofs.lemmas.List.{take-append-drop}
use Rattle.hall.specs.Parts.{AreAbove, AreAscending, AreBelow, IsAt, IsGapFor, IsOneOf, connection_of, entries_of}
use Rattle.hall.specs.State.{Connection}
use Rattle.hall.specs.View.{known_at}
use Rattle.hall.specs.declared.peer.Peer.{Peer}

-- ---- One of these

-- who stands at a place is one of these
pub one_at : (peers : List Peer) (k : ℕ) (peer : Peer) → slice_get peers k ≡ Some peer → IsOneOf peer peers
one_at [] k peer there = cc
one_at (x ∷ peers) zero peer there = let same : x ≡ peer = cc in inl same
one_at (x ∷ peers) (suc k) peer there = inr (one_at peers k peer there)

-- each of these has a greater id where all have, and a smaller one where all have
pub above_one : (id : ℕ) (peers : List Peer) (peer : Peer) → AreAbove id peers → IsOneOf peer peers → id < peer.id
above_one id [] peer all one = absurd one
above_one id (x ∷ peers) peer all (inl same) = subst (λ (y : Peer). id < y.id) same all.0
above_one id (x ∷ peers) peer all (inr later) = above_one id peers peer all.1 later

-- ---- What is known

-- what is known of an id by a connection that has another is known by the others
known_past : (x : Peer) (id : ℕ) (rest : Option Connection) → x.id ≢ id → cond (x.id == id) (Some (connection_of x)) rest ≡ rest
known_past x id rest ne = ap (λ (b : Bool). cond b (Some (connection_of x)) rest) (ne_eqb x.id id ne)

-- nothing is known of an id that all are above
known_above : (id : ℕ) (peers : List Peer) → AreAbove id peers → known_at (entries_of peers) id ≡ None
known_above id [] all = refl
known_above id (x ∷ peers) all =
    known_past x id (known_at (entries_of peers) id) (λ e. omega (arith, e, all.0)) ∙ known_above id peers all.1

-- each of these is known
pub known_one : (peers : List Peer) (peer : Peer) → AreAscending peers → IsOneOf peer peers →
    known_at (entries_of peers) peer.id ≡ Some (connection_of peer)
known_one [] peer all one = absurd one
known_one (x ∷ peers) peer all (inl same) =
    ap (λ (b : Bool). cond b (Some (connection_of x)) (known_at (entries_of peers) peer.id))
    (eq-eqb x.id peer.id (ap (λ (y : Peer). y.id) same))
    ∙ ap (λ (y : Peer). Some (connection_of y)) same
known_one (x ∷ peers) peer all (inr later) =
    known_past x peer.id (known_at (entries_of peers) peer.id)
    (λ e. omega (arith, e, above_one x.id peers peer all.0 later))
    ∙ known_one peers peer all.1 later

-- ---- One changes

-- none, or one
abbrev pub listed : Option Peer → List Peer
listed None = []
listed (Some peer) = peer ∷ []

-- nobody, or the one with this id
abbrev pub IsFor : Option Peer → ℕ → Type 0
IsFor None id = Unit {0}
IsFor (Some x) id = x.id ≡ id

-- what is known of it
abbrev pub known_of : Option Peer → Option Connection
known_of x = option_map connection_of x

-- at the place of an id stood this one or none, and stands that one or none
pub record Swaps (old new : List Peer) (id : ℕ) (was is : Option Peer) : Type 0 where
  pub front : List Peer
  pub back : List Peer
  pub old_is : old ≡ front ++ (listed was ++ back)
  pub new_is : new ≡ front ++ (listed is ++ back)
  pub was_for : IsFor was id
  pub is_for : IsFor is id
  pub below : AreBelow id front
  pub above : AreAbove id back

known_back : (x : Option Peer) (back : List Peer) (id j : ℕ) → IsFor x id → j ≢ id →
    known_at (entries_of (listed x ++ back)) j ≡ known_at (entries_of back) j
known_back None back id j own ne = refl
known_back (Some x) back id j own ne = known_past x j (known_at (entries_of back) j) (λ e. ne (sym e ∙ own))

-- what is known of the others stays
known_else : (front back : List Peer) (id j : ℕ) (was is : Option Peer) → IsFor was id → IsFor is id → j ≢ id →
    known_at (entries_of (front ++ (listed is ++ back))) j ≡ known_at (entries_of (front ++ (listed was ++ back))) j
known_else [] back id j was is own now ne = known_back is back id j now ne ∙ sym (known_back was back id j own ne)
known_else (y ∷ front) back id j was is own now ne =
    ap (λ (r : Option Connection). cond (y.id == j) (Some (connection_of y)) r) (known_else front back id j was is own now ne)

-- and this is known of the one
known_here : (front back : List Peer) (id : ℕ) (is : Option Peer) → IsFor is id → AreBelow id front → AreAbove id back →
    known_at (entries_of (front ++ (listed is ++ back))) id ≡ known_of is
known_here [] back id None now below above = known_above id back above
known_here [] back id (Some x) now below above =
    ap (λ (b : Bool). cond b (Some (connection_of x)) (known_at (entries_of back) id)) (eq-eqb x.id id now)
known_here (y ∷ front) back id is now below above =
    known_past y id (known_at (entries_of (front ++ (listed is ++ back))) id) (λ e. omega (arith, e, below.0))
    ∙ known_here front back id is now below.1 above

-- ---- The order stays

above_back : (id : ℕ) (x : Option Peer) (back : List Peer) → AreAbove id (listed x ++ back) → AreAbove id back
above_back id None back all = all
above_back id (Some x) back all = all.1

above_swap : (low id : ℕ) (front back : List Peer) (was is : Option Peer) → low < id → IsFor is id →
    AreAbove low (front ++ (listed was ++ back)) → AreAbove low (front ++ (listed is ++ back))
above_swap low id [] back was None less now all = above_back low was back all
above_swap low id [] back was (Some x) less now all = (omega (arith, less, now), above_back low was back all)
above_swap low id (y ∷ front) back was is less now all = (all.0, above_swap low id front back was is less now all.1)

ascending_back : (x : Option Peer) (back : List Peer) → AreAscending (listed x ++ back) → AreAscending back
ascending_back None back all = all
ascending_back (Some x) back all = all.1

ascending_swap : (front back : List Peer) (id : ℕ) (was is : Option Peer) → IsFor is id → AreBelow id front → AreAbove id back →
    AreAscending (front ++ (listed was ++ back)) → AreAscending (front ++ (listed is ++ back))
ascending_swap [] back id was None now below above all = ascending_back was back all
ascending_swap [] back id was (Some x) now below above all =
    (subst (λ (i : ℕ). AreAbove i back) (sym now) above, ascending_back was back all)
ascending_swap (y ∷ front) back id was is now below above all =
    (above_swap y.id id front back was is below.0 now all.0, ascending_swap front back id was is now below.1 above all.1)

-- ---- Those that were there are there

one_back : (peer : Peer) (x : Option Peer) (back : List Peer) → IsOneOf peer back → IsOneOf peer (listed x ++ back)
one_back peer None back one = one
one_back peer (Some x) back one = inr one

one_swap : (peer : Peer) (front back : List Peer) (was is : Option Peer) → IsOneOf peer (front ++ (listed is ++ back)) →
    (is ≡ Some peer) ⊎ IsOneOf peer (front ++ (listed was ++ back))
one_swap peer [] back was None one = inr (one_back peer was back one)
one_swap peer [] back was (Some x) (inl same) = inl (ap (λ (y : Peer). Some y) same)
one_swap peer [] back was (Some x) (inr later) = inr (one_back peer was back later)
one_swap peer (y ∷ front) back was is (inl same) = inr (inl same)
one_swap peer (y ∷ front) back was is (inr later) = elim (one_swap peer front back was is later) [
  | inl now ↦ inl now
  | inr before ↦ inr (inr before)
]

module _ (old new : List Peer) (id : ℕ) (was is : Option Peer) (swaps : Swaps old new id was is) where
  -- what is known now
  pub known_now : (j : ℕ) → known_at (entries_of new) j ≡ cond (j == id) (known_of is) (known_at (entries_of old) j)
  known_now j = elim (cases_eq j id) [
    | inl same ↦
        ap (λ (l : List Peer). known_at (entries_of l) j) swaps.new_is
        ∙ ap (known_at (entries_of (swaps.front ++ (listed is ++ swaps.back)))) same
        ∙ known_here swaps.front swaps.back id is swaps.is_for swaps.below swaps.above
        ∙ sym (ap (λ (b : Bool). cond b (known_of is) (known_at (entries_of old) j)) (eq-eqb j id same))
    | inr other ↦
        ap (λ (l : List Peer). known_at (entries_of l) j) swaps.new_is
        ∙ known_else swaps.front swaps.back id j was is swaps.was_for swaps.is_for other
        ∙ sym (ap (λ (l : List Peer). known_at (entries_of l) j) swaps.old_is)
        ∙ sym (ap (λ (b : Bool). cond b (known_of is) (known_at (entries_of old) j)) (ne_eqb j id other))
  ]

  -- the ids rise still
  pub ascending_now : AreAscending old → AreAscending new
  ascending_now all =
      subst AreAscending (sym swaps.new_is)
      (ascending_swap swaps.front swaps.back id was is swaps.is_for swaps.below swaps.above (subst AreAscending swaps.old_is all))

  -- each is the one, or was there
  pub one_now : (peer : Peer) → IsOneOf peer new → (is ≡ Some peer) ⊎ IsOneOf peer old
  one_now peer one =
      elim (one_swap peer swaps.front swaps.back was is (subst (IsOneOf peer) swaps.new_is one)) [
        | inl now ↦ inl now
        | inr before ↦ inr (subst (IsOneOf peer) (sym swaps.old_is) before)
      ]

-- ---- At a place

-- those before a place, the one there, and those behind it
split_at : (peers : List Peer) (k : ℕ) (peer : Peer) → slice_get peers k ≡ Some peer → peers ≡ take k peers ++ peer ∷ drop (suc k) peers
split_at [] k peer there = cc
split_at (x ∷ peers) zero peer there = let same : x ≡ peer = cc in ap (λ (y : Peer). y ∷ peers) same
split_at (x ∷ peers) (suc k) peer there = ap (λ (l : List Peer). x ∷ l) (split_at peers k peer there)

set_at : (peers : List Peer) (k : ℕ) (peer made : Peer) → slice_get peers k ≡ Some peer →
    set peers k made ≡ take k peers ++ made ∷ drop (suc k) peers
set_at [] k peer made there = cc
set_at (x ∷ peers) zero peer made there = refl
set_at (x ∷ peers) (suc k) peer made there = ap (λ (l : List Peer). x ∷ l) (set_at peers k peer made there)

above_at : (id : ℕ) (peers : List Peer) (k : ℕ) (peer : Peer) → slice_get peers k ≡ Some peer → AreAbove id peers → id < peer.id
above_at id peers k peer there all = above_one id peers peer all (one_at peers k peer there)

-- those before have smaller ids, and those behind it greater ones
below_at : (peers : List Peer) (k : ℕ) (peer : Peer) → slice_get peers k ≡ Some peer → AreAscending peers → AreBelow peer.id (take k peers)
below_at [] k peer there all = cc
below_at (x ∷ peers) zero peer there all = tt
below_at (x ∷ peers) (suc k) peer there all = (above_at x.id peers k peer there all.0, below_at peers k peer there all.1)

behind_at : (peers : List Peer) (k : ℕ) (peer : Peer) → slice_get peers k ≡ Some peer → AreAscending peers →
    AreAbove peer.id (drop (suc k) peers)
behind_at [] k peer there all = cc
behind_at (x ∷ peers) zero peer there all =
    let same : x ≡ peer = cc in subst (λ (y : Peer). AreAbove y.id peers) same all.0
behind_at (x ∷ peers) (suc k) peer there all = behind_at peers k peer there all.1

module _ (peers : List Peer) (k : ℕ) (peer : Peer) (there : slice_get peers k ≡ Some peer) (all : AreAscending peers) where
  -- one changes that stays itself
  pub swaps_set : (made : Peer) → made.id ≡ peer.id → Swaps peers (set peers k made) peer.id (Some peer) (Some made)
  swaps_set made own = record {
    front = take k peers;
    back = drop (suc k) peers;
    old_is = split_at peers k peer there;
    new_is = set_at peers k peer made there;
    was_for = refl;
    is_for = own;
    below = below_at peers k peer there all;
    above = behind_at peers k peer there all;
  }

  -- one is gone
  pub swaps_remove : Swaps peers (remove peers k) peer.id (Some peer) None
  swaps_remove = record {
    front = take k peers;
    back = drop (suc k) peers;
    old_is = split_at peers k peer there;
    new_is = refl;
    was_for = refl;
    is_for = tt;
    below = below_at peers k peer there all;
    above = behind_at peers k peer there all;
  }

-- one is new
pub swaps_insert : (peers : List Peer) (id k : ℕ) (made : Peer) → IsGapFor peers id k → made.id ≡ id →
    Swaps peers (insert peers k made) id None (Some made)
swaps_insert peers id k made gap own = record {
  front = take k peers;
  back = drop k peers;
  old_is = sym (take-append-drop k peers);
  new_is = refl;
  was_for = tt;
  is_for = own;
  below = gap.below;
  above = gap.above;
}

-- of one that has a gap nothing is known
known_split : (peers : List Peer) (id k : ℕ) → AreBelow id (take k peers) → AreAbove id (drop k peers) →
    known_at (entries_of peers) id ≡ None
known_split peers id zero below above = known_above id peers above
known_split [] id (suc k) below above = refl
known_split (x ∷ peers) id (suc k) below above =
    known_past x id (known_at (entries_of peers) id) (λ e. omega (arith, e, below.0)) ∙ known_split peers id k below.1 above

pub known_gap : (peers : List Peer) (id k : ℕ) → IsGapFor peers id k → known_at (entries_of peers) id ≡ None
known_gap peers id k gap = known_split peers id k gap.below gap.above

-- and this is known of one that has a place
pub known_place : (peers : List Peer) (id k : ℕ) → AreAscending peers → (place : IsAt peers id k) →
    known_at (entries_of peers) id ≡ Some (connection_of place.peer)
known_place peers id k all place =
    ap (known_at (entries_of peers)) (sym place.own) ∙ known_one peers place.peer all (one_at peers k place.peer place.there)
