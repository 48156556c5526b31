-- Which connection was idle longest, entry by entry.
use Rattle.std.proofs.Common.{◌≡◌, ℕ, ◌+◌, ◌<◌, ◌≤◌, Bool, true, false, List, length, Option, Some, None, refl, sym, ◌∙◌, ap, subst, cond, ltb, arith}
use Rattle.std.specs.BTreeMap.{BTreeMap, IsOrdered, get, is_at}
use Rattle.std.specs.Cmp.{Equal-is, nat_cmp_total}
use Rattle.std.specs.List.{slice_get}
use Rattle.std.specs.Ordering.{nat_cmp}
use Rattle.std.proofs.lemmas.Bool.{ltb-true, ltb-false, false≢true}
use Rattle.std.proofs.lemmas.Map.Entries.{btree_map_get_place, place_from_lookup}
use Rattle.std.proofs.lemmas.Map.Lookups.{exact_unsigned}
use Rattle.std.proofs.lemmas.Option.{slice_get_within}
use borrow.Author.Count.{below_more}
use Rattle.edge_io.specs.Idle.{IsIdleLongest, after_one, is_idle, longer}
use Rattle.edge_io.specs.declared.idle.Idle.{Idle}
use Rattle.edge_io.specs.declared.peers.Peer.{Peer}

module _ {S : Type 0} (waiting : List ℕ) (entries : List (ℕ × Peer S)) where
  -- what stands at this place isn't idle
  abbrev pub NotIdle : ℕ → Type 0
  NotIdle k = (id : ℕ) (peer : Peer S) → slice_get entries k ≡ Some (id, peer) → is_idle waiting id peer ≡ true → ⊥

  -- what stands at this place was used no earlier, if it is idle
  abbrev pub NoEarlier : ℕ → ℕ → Type 0
  NoEarlier used k = (id : ℕ) (peer : Peer S) → slice_get entries k ≡ Some (id, peer) → is_idle waiting id peer ≡ true → used ≤ peer.used

  -- this one of so many first entries was idle longest, or none of them is idle
  abbrev pub IsBestOf : ℕ → Option Idle → Type 0
  IsBestOf n None = (k : ℕ) → k < n → NotIdle k
  IsBestOf n (Some best) =
      (k : ℕ) × (peer : Peer S) × (k < n) × (slice_get entries k ≡ Some (best.id, peer)) ×
      (is_idle waiting best.id peer ≡ true) × (peer.used ≡ best.used) × ((j : ℕ) → j < n → NoEarlier best.used j)

  -- two entries at one place are one
  one_entry : (k id other : ℕ) (peer q : Peer S) → slice_get entries k ≡ Some (id, peer) → slice_get entries k ≡ Some (other, q) →
      ◌≡◌ {A = ℕ × Peer S} (id, peer) (other, q)
  one_entry k id other peer q a b = cc

  -- an entry was used no earlier than itself, nor than one before it
  no_earlier : (n id used : ℕ) (peer : Peer S) → slice_get entries n ≡ Some (id, peer) → used ≤ peer.used → NoEarlier used n
  no_earlier n id used peer at least other q gets idle =
      subst (λ (e : ℕ × Peer S). used ≤ e.1.used) (one_entry n id other peer q at gets) least

  -- an entry that isn't idle isn't
  not_idle : (n id : ℕ) (peer : Peer S) → slice_get entries n ≡ Some (id, peer) → is_idle waiting id peer ≡ false → NotIdle n
  not_idle n id peer at busy other q gets idle =
      let e : is_idle waiting id peer ≡ is_idle waiting other q =
      ap (λ (e : ℕ × Peer S). is_idle waiting e.0 e.1) (one_entry n id other peer q at gets) in
      false≢true (sym busy ∙ e ∙ idle)

  -- none was idle so far, and one more
  after_none : (n id : ℕ) (peer : Peer S) → slice_get entries n ≡ Some (id, peer) → IsBestOf n None →
      IsBestOf (n + 1) (after_one waiting None id peer)
  after_none n id peer at none =
      elim (is_idle waiting id peer) as (λ (r : Bool). is_idle waiting id peer ≡ r →
      IsBestOf (n + 1) (cond r (Some (longer None (record { id = id; used = peer.used }))) None)) [
        | true ↦ λ idle. (
          n,
          peer,
          omega arith,
          at,
          idle,
          refl,
          below_more (NoEarlier peer.used) n (λ k less other q gets is. absurd (none k less other q gets is))
              (no_earlier n id peer.used peer at (omega arith)),
        )
        | false ↦ λ busy. below_more NotIdle n none (not_idle n id peer at busy)
      ] refl

  -- one was idle longest so far, and one more
  after_some : (n id : ℕ) (peer : Peer S) (best : Idle) → slice_get entries n ≡ Some (id, peer) → IsBestOf n (Some best) →
      IsBestOf (n + 1) (after_one waiting (Some best) id peer)
  after_some n id peer best at (k, old, less, gets, idle, used, least) =
      let one : Idle = record { id = id; used = peer.used } in
      elim (is_idle waiting id peer) as (λ (r : Bool). is_idle waiting id peer ≡ r →
      IsBestOf (n + 1) (cond r (Some (longer (Some best) one)) (Some best))) [
        | true ↦ λ now.
            elim (ltb peer.used best.used) as (λ (r : Bool). ltb peer.used best.used ≡ r →
            IsBestOf (n + 1) (Some (cond r one best))) [
              | true ↦ λ earlier. (
                n,
                peer,
                omega arith,
                at,
                now,
                refl,
                below_more (NoEarlier peer.used) n
                    (λ j below other q is has. omega (arith, least j below other q is has, ltb-true peer.used best.used earlier))
                    (no_earlier n id peer.used peer at (omega arith)),
              )
              | false ↦ λ later. (
                k,
                old,
                omega arith,
                gets,
                idle,
                used,
                below_more (NoEarlier best.used) n least
                    (no_earlier n id best.used peer at (omega (arith, ltb-false peer.used best.used later))),
              )
            ] refl
        | false ↦ λ busy. (
          k,
          old,
          omega arith,
          gets,
          idle,
          used,
          below_more (NoEarlier best.used) n least
              (λ other q is has. absurd (not_idle n id peer at busy other q is has)),
        )
      ] refl

  -- one more entry
  pub IsBestOf-more : (n id : ℕ) (peer : Peer S) (best : Option Idle) → slice_get entries n ≡ Some (id, peer) → IsBestOf n best →
      IsBestOf (n + 1) (after_one waiting best id peer)
  IsBestOf-more n id peer None at best = after_none n id peer at best
  IsBestOf-more n id peer (Some one) at best = after_some n id peer one at best

-- what is held under a number stands at a place
place_of_held : {S : Type 0} (held : BTreeMap ℕ (Peer S)) (id : ℕ) (peer : Peer S) → get nat_cmp held id ≡ Some peer →
    (k : ℕ) × (k < length held.entries) × (slice_get held.entries k ≡ Some (id, peer))
place_of_held held id peer is =
    let p = place_from_lookup (is_at (nat_cmp id)) held.entries peer is in
    let same : id ≡ p.1 = exact_unsigned id p.1 ((Equal-is (nat_cmp id p.1)).0 p.3) in
    (p.0, slice_get_within held.entries p.0 (p.1, peer) p.2, p.2 ∙ ap (λ (j : ℕ). Some (j, peer)) (sym same))

-- of all that are held none is idle
pub none_is_idle : {S : Type 0} (held : BTreeMap ℕ (Peer S)) (waiting : List ℕ) → IsBestOf waiting held.entries (length held.entries) None →
    IsIdleLongest held waiting None
none_is_idle held waiting none id peer idle =
    let p = place_of_held held id peer idle.is in
    none p.0 p.1 id peer p.2 idle.idle

-- of all that are held this one was idle longest
pub one_is_idle : {S : Type 0} (held : BTreeMap ℕ (Peer S)) (waiting : List ℕ) (best : Idle) → IsOrdered nat_cmp held →
    IsBestOf waiting held.entries (length held.entries) (Some best) → IsIdleLongest held waiting (Some best.id)
one_is_idle held waiting best ordered (k, peer, less, gets, idle, used, least) = (
  peer,
  record { is = btree_map_get_place nat_cmp_total held k best.id peer ordered gets; idle = idle },
  λ other q is.
      let p = place_of_held held other q is.is in
      let low : best.used ≤ q.used = least p.0 p.1 other q p.2 is.idle in
      omega (arith, used),
)
