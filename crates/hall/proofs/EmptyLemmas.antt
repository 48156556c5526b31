-- A hall without connections.
use Rattle.std.proofs.Common.{◌≡◌, ◌≤◌, ◌==◌, ℕ, Bool, true, false, if◌then◌else◌, List, [], ◌∷◌, Some, None, refl, sym, ◌∙◌, ap, subst, arith}
use Rattle.std.proofs.lemmas.Bool.{eq-eqb}
use Rattle.std.specs.Vec.{vec_capacity}
use Rattle.hall.specs.Parts.{AreAscending, AreReadied, IsHeld, IsOneOf, count_of, entries_of, entry_of, most_peers, state_in}
use Rattle.hall.specs.Sound.{AreWaiting}
use Rattle.hall.specs.State.{State, empty_hall}
use Rattle.hall.specs.View.{Entry, known_at}
use Rattle.hall.specs.declared.peer.Peer.{Peer}
use Rattle.hall.specs.declared.room.Room.{Room}
use Rattle.session_answers.specs.Profiles.{stored_of}
use Rattle.session_answers.specs.declared.kept.KeptProfiles.{KeptProfiles}
use Rattle.session_answers.specs.Stored.{Stored}

module _ (room : Room) (none : room.peers.items ≡ []) (queue : room.desk.queue.items ≡ []) where
  -- nothing is known in it
  known_none : (id : ℕ) → (state_in room).known id ≡ None
  known_none id = ap (λ (l : List Peer). known_at (entries_of l) id) none

  -- it is as it has to be
  pub held_empty : most_peers ≤ vec_capacity room.peers → AreReadied room.desk → IsHeld room
  held_empty roomy kept = record {
    sound = record {
      sound = λ id c known. (let clash : Some c ≡ None = sym known ∙ known_none id in absurd (cc));
      queued = subst (AreWaiting (state_in room)) (sym queue)
          (record {
            waits = λ id among. absurd among;
            once = tt;
            whole = λ id waits. (let clash : Some waits.c ≡ None = sym waits.known ∙ known_none id in absurd (cc));
          });
    };
    ascending = subst AreAscending (sym none) tt;
    roomy = roomy;
    few = λ away. omega (arith, ap (λ (l : List Peer). count_of l away) none);
    searching = λ peer one. absurd (subst (IsOneOf peer) none one);
    kept = kept;
  }

  -- its state
  pub state_empty : (stored : List Stored) → stored_of room.desk.profiles ≡ stored → state_in room ≡ empty_hall stored
  state_empty stored is = λ i. record { stored = is i; waiting = queue i; known = λ id. known_none id i }

-- where nothing is known nobody is there
entries_none : (entries : List Entry) → ((id : ℕ) → known_at entries id ≡ None) → (x : Entry) (rest : List Entry) → entries ≡ x ∷ rest → ⊥
entries_none entries none x rest is = go (x.id == x.id) (eq-eqb x.id x.id refl)
    (ap (λ (l : List Entry). known_at l x.id) (sym is) ∙ none x.id)
  where
    go : (b : Bool) → b ≡ true → (if b then Some x.known else known_at rest x.id) ≡ None → ⊥
    go true test same = absurd (cc)
    go false clash same = absurd (cc)

-- nobody is held
peers_none : (peers : List Peer) → ((id : ℕ) → known_at (entries_of peers) id ≡ None) → (peer : Peer) → IsOneOf peer peers → ⊥
peers_none [] none peer one = one
peers_none (x ∷ peers) none peer one = entries_none (entries_of (x ∷ peers)) none (entry_of x) (entries_of peers) refl

-- a room without connections is as it has to be where more profiles were made ready
pub held_readied : (room : Room) (kept : KeptProfiles) → IsHeld room → state_in room ≡ empty_hall (state_in room).stored →
    AreReadied (record room.desk { kept = kept }) → IsHeld (record room { desk = record room.desk { kept = kept } })
held_readied room kept held new are = record {
  sound = held.sound;
  ascending = held.ascending;
  roomy = held.roomy;
  few = held.few;
  searching = λ peer one. absurd (peers_none room.peers.items (λ id. ap (λ (s : State). s.known id) new) peer one);
  kept = are;
}
