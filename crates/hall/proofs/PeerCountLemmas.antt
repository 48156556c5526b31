-- How many connections count, and all that are held.
use Rattle.std.proofs.Common.{◌≡◌, ◌<◌, ◌==◌, ℕ, zero, suc, ◌+◌, Bool, true, false, cond, List, [], ◌∷◌, ◌++◌, length, take, drop, Option, Some, None, inl, inr, refl, sym, ◌∙◌, ap, arith, eqb-true}
use Rattle.std.specs.Bool.{beq}
use Rattle.hall.proofs.PeerLemmas.{Swaps, above_one, known_of, known_one, listed}
use Rattle.hall.specs.Held.{AreAll, AreDifferent, Counts, IsAmong, count_among, count_at}
use Rattle.hall.specs.Parts.{AreAscending, IsOneOf, connection_of, count_of, entries_of}
use Rattle.hall.specs.State.{Connection, State}
use Rattle.hall.specs.View.{known_at}
use Rattle.hall.specs.declared.peer.Peer.{Peer}

-- ---- Counts

-- a connection adds to the others what it counts alone
count_more : (x : Option Connection) (away : Bool) (n : ℕ) → count_at x away n ≡ n + count_at x away 0
count_more None away n = omega arith
count_more (Some c) away n =
    elim (beq c.away away) as (λ b. cond b (suc n) n ≡ n + cond b 1 0) [ true ↦ omega arith | false ↦ omega arith ]

count_back : (x : Option Peer) (back : List Peer) (away : Bool) →
    count_of (listed x ++ back) away ≡ count_of back away + count_at (known_of x) away 0
count_back None back away = omega arith
count_back (Some x) back away = count_more (Some (connection_of x)) away (count_of back away)

count_swap : (front back : List Peer) (was is : Option Peer) (away : Bool) →
    count_of (front ++ (listed is ++ back)) away + count_at (known_of was) away 0
    ≡ count_of (front ++ (listed was ++ back)) away + count_at (known_of is) away 0
count_swap [] back was is away = omega (arith, count_back was back away, count_back is back away)
count_swap (y ∷ front) back was is away =
    let c = Some (connection_of y) in
    omega (
      arith,
      count_swap front back was is away,
      count_more c away (count_of (front ++ (listed is ++ back)) away),
      count_more c away (count_of (front ++ (listed was ++ back)) away),
    )

-- the count after one changed
pub count_now : (old new : List Peer) (id : ℕ) (was is : Option Peer) (swaps : Swaps old new id was is) (away : Bool) →
    count_of new away + count_at (known_of was) away 0 ≡ count_of old away + count_at (known_of is) away 0
count_now old new id was is swaps away =
    omega (
      arith,
      count_swap swaps.front swaps.back was is away,
      ap (λ (l : List Peer). count_of l away) swaps.old_is,
      ap (λ (l : List Peer). count_of l away) swaps.new_is,
    )

-- a connection counts once
counts_once : (c : Connection) → count_at (Some c) false 0 + count_at (Some c) true 0 ≡ 1
counts_once c =
    elim c.away as (λ (b : Bool). cond (beq b false) 1 0 + cond (beq b true) 1 0 ≡ 1) [ true ↦ refl | false ↦ refl ]

-- so as many count as are held
pub count_all : (peers : List Peer) → count_of peers false + count_of peers true ≡ length peers
count_all [] = refl
count_all (x ∷ peers) =
    let c = Some (connection_of x) in
    omega (
      arith,
      count_all peers,
      counts_once (connection_of x),
      count_more c false (count_of peers false),
      count_more c true (count_of peers true),
    )

-- ---- All connections

-- the ids of all
abbrev pub ids_of : List Peer → List ℕ
ids_of [] = []
ids_of (x ∷ peers) = x.id ∷ ids_of peers

-- the next one, the others behind it, and the ids with its own
pub record IsNext (peers : List Peer) (k : ℕ) : Type 0 where
  pub peer : Peer
  pub rest : drop k peers ≡ peer ∷ drop (suc k) peers
  pub ids : ids_of (take (suc k) peers) ≡ ids_of (take k peers) ++ peer.id ∷ []

pub next_at : (peers : List Peer) (k : ℕ) → k < length peers → IsNext peers k
next_at [] k there = absurd (omega (arith, there))
next_at (x ∷ peers) zero there = record { peer = x; rest = refl; ids = refl }
next_at (x ∷ peers) (suc k) there =
    let next = next_at peers k (omega (arith, there)) in
    record { peer = next.peer; rest = next.rest; ids = ap (λ (l : List ℕ). x.id ∷ l) next.ids }

-- an id is that of one of these
one_among : (peers : List Peer) (id : ℕ) → IsAmong id (ids_of peers) → (peer : Peer) × IsOneOf peer peers × (peer.id ≡ id)
one_among [] id is = absurd is
one_among (x ∷ peers) id (inl same) = (x, inl refl, same)
one_among (x ∷ peers) id (inr later) = let found = one_among peers id later in (found.0, inr found.1, found.2)

ids_differ : (peers : List Peer) → AreAscending peers → AreDifferent (ids_of peers)
ids_differ [] all = tt
ids_differ (x ∷ peers) all = (
  (λ is.
      let found = one_among peers x.id is in
      omega (arith, found.2, above_one x.id peers found.0 all.0 found.1)),
  ids_differ peers all.1,
)

-- who is known is among them
known_test : (b : Bool) (x : Peer) (peers : List Peer) (id : ℕ) (c : Connection) → (x.id == id) ≡ b →
    (known_at (entries_of peers) id ≡ Some c → IsAmong id (ids_of peers)) →
    cond b (Some (connection_of x)) (known_at (entries_of peers) id) ≡ Some c → IsAmong id (x.id ∷ ids_of peers)
known_test true x peers id c is rest known = inl (eqb-true x.id id is)
known_test false x peers id c is rest known = inr (rest known)

known_among : (peers : List Peer) (id : ℕ) (c : Connection) → known_at (entries_of peers) id ≡ Some c → IsAmong id (ids_of peers)
known_among [] id c known = cc
known_among (x ∷ peers) id c known = known_test (x.id == id) x peers id c refl (known_among peers id c) known

-- these are all
pub all_ids : (s : State) (peers : List Peer) → s.known ≡ known_at (entries_of peers) → AreAscending peers → AreAll s (ids_of peers)
all_ids s peers is all = record {
  once = ids_differ peers all;
  held = λ id among.
      let found = one_among peers id among in (
        connection_of found.0,
        ap (λ (f : ℕ → Option Connection). f id) is ∙ ap (known_at (entries_of peers)) (sym found.2)
            ∙ known_one peers found.0 all found.1,
      );
  whole = λ id c known. known_among peers id c (sym (ap (λ (f : ℕ → Option Connection). f id) is) ∙ known);
}

count_ids : (known : ℕ → Option Connection) (away : Bool) (peers : List Peer) →
    ((peer : Peer) → IsOneOf peer peers → known peer.id ≡ Some (connection_of peer)) →
    count_of peers away ≡ count_among known away (ids_of peers)
count_ids known away [] all = refl
count_ids known away (x ∷ peers) all =
    ap (λ (c : Option Connection). count_at c away (count_of peers away)) (sym (all x (inl refl)))
    ∙ ap (count_at (known x.id) away) (count_ids known away peers (λ peer one. all peer (inr one)))

-- and so many of them count
pub counts : (s : State) (peers : List Peer) (away : Bool) → s.known ≡ known_at (entries_of peers) → AreAscending peers →
    Counts s away (count_of peers away)
counts s peers away is all = record {
  ids = ids_of peers;
  all = all_ids s peers is all;
  is = count_ids s.known away peers
      (λ peer one. ap (λ (f : ℕ → Option Connection). f peer.id) is ∙ known_one peers peer all one);
}
