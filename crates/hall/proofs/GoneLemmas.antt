-- What a room comes to by a connection that is gone.
use Rattle.std.proofs.Common.{◌≡◌, ◌≤◌, ℕ, List, [], Option, Some, None, sym, ◌∙◌, ap, subst, arith, append-nil}
use Rattle.std.specs.List.{remove}
use Rattle.std.specs.Vec.{vec_capacity}
use Rattle.hall.proofs.PeerCountLemmas.{count_now}
use Rattle.hall.proofs.PeerLemmas.{Swaps, known_place, swaps_remove}
use Rattle.hall.proofs.RoomLemmas.{Becomes, held_now, state_now, stay-same}
use Rattle.hall.proofs.SoundLemmas.{sound_loses}
use Rattle.hall.specs.Parts.{AreReadied, IsAt, IsHeld, most_peers, service_in, state_in}
use Rattle.hall.specs.Sound.{IsSound}
use Rattle.hall.specs.State.{site_in, Service, State, freed, without}
use Rattle.hall.specs.Steps as steps
use Rattle.hall.specs.Steps.{Loses}
use Rattle.hall.specs.declared.peer.Peer.{Peer}
use Rattle.hall.specs.declared.room.Room.{Room}
use Rattle.route_ready.specs.World.{world_of}
use Rattle.session_answers.specs.Profiles.{stored_of}

-- of a desk nothing changes, but that a connection waits no more
pub record WaitsNoMore (room new : Room) (id : ℕ) : Type 0 where
  pub stored : stored_of new.desk.profiles ≡ stored_of room.desk.profiles
  pub queue : new.desk.queue.items ≡ without id room.desk.queue.items
  pub same : service_in new ≡ service_in room
  pub kept : AreReadied new.desk
  pub kept_same : new.desk.kept ≡ room.desk.kept

module _ (room new : Room) (held : IsHeld room) (id : ℕ) (was : Option Peer)
    (swaps : Swaps room.peers.items new.peers.items id was None) (roomy : most_peers ≤ vec_capacity new.peers)
    (left : WaitsNoMore room new id) where
  pub gone_state : state_in new ≡ freed (state_in room) id
  gone_state =
      state_now room new id was None swaps (stored_of room.desk.profiles) (without id room.desk.queue.items) left.stored left.queue

  pub gone_becomes : (relates : State → Type 0) → relates (state_in new) → IsSound (service_in room) (state_in new) →
      Becomes room new relates
  gone_becomes relates is sound = record {
    is = is;
    held = held_now room new id was None swaps held (subst (λ (v : Service). IsSound v (state_in new)) (sym left.same) sound) roomy
        (λ away. omega (arith, count_now room.peers.items new.peers.items id was None swaps away, held.few away))
        (λ peer is. let clash : None ≡ Some peer = is in absurd (cc))
        [] (ap site_in left.same) (left.stored ∙ sym (append-nil (stored_of room.desk.profiles))) left.kept
        (stay-same (world_of room.desk.world) room.desk.kept new.desk.kept left.kept_same);
    same = left.same;
  }

-- one that is lost
pub loses_by : (room new : Room) (held : IsHeld room) (k id : ℕ) (place : IsAt room.peers.items id k) →
    new.peers.items ≡ remove room.peers.items k → vec_capacity new.peers ≡ vec_capacity room.peers → WaitsNoMore room new id →
    Becomes room new (Loses (state_in room) id)
loses_by room new held k id place now capacity left =
    let swaps : Swaps room.peers.items new.peers.items id (Some place.peer) None =
    subst (λ (l : List Peer). Swaps room.peers.items l id (Some place.peer) None) (sym now)
    (subst (λ (i : ℕ). Swaps room.peers.items (remove room.peers.items k) i (Some place.peer) None) place.own
    (swaps_remove room.peers.items k place.peer place.there held.ascending)) in
    let roomy : most_peers ≤ vec_capacity new.peers = omega (arith, held.roomy, capacity) in
    let loses : Loses (state_in room) id (state_in new) =
    subst (Loses (state_in room) id) (sym (gone_state room new held id (Some place.peer) swaps roomy left))
    (steps.gone (known_place room.peers.items id k held.ascending place)) in
    gone_becomes room new held id (Some place.peer) swaps roomy left (Loses (state_in room) id) loses
    (sound_loses (service_in room) (state_in room) held.sound id (state_in new) loses)
