-- What a room comes to by the turn of the search that waited longest.
use Rattle.std.proofs.Common.{◌≡◌, ℕ, List, [], ◌∷◌, get_or, Some, None, Result, Ok, Err, IfErr, IsOk, inl, refl, sym, ◌∙◌, ap, subst}
use Rattle.std.specs.Prelude.{slice_get}
use Rattle.hall.proofs.PeerFindLemmas.{at_here}
use Rattle.hall.proofs.PeerLemmas.{known_gap}
use Rattle.hall.proofs.RoomLemmas.{Becomes, IsReplaced, made_state, made_becomes, there_known}
use Rattle.hall.proofs.SoundLemmas.{sound_works}
use Rattle.hall.specs.Held.{IsAmong}
use Rattle.hall.specs.Parts.{HasTurn, IsAt, IsGapFor, IsHeld, IsWaitingIn, Makes, connection_of, phase_in, service_at, service_in, state_in}
use Rattle.hall.specs.Sound.{IsWaiting}
use Rattle.hall.specs.State.{Connection, Service, Waits, changed}
use Rattle.hall.specs.Steps as steps
use Rattle.hall.specs.Steps.{GoesOn, Works}
use Rattle.hall.specs.declared.desk.Desk.{Desk}
use Rattle.hall.specs.declared.room.Room.{Room}
use Rattle.hall.specs.declared.peer.Phase.TheVariants as phases
use Rattle.hall.specs.declared.peer.Phase.{Phase as Kept}
use Rattle.hall.specs.declared.peer.Peer.{Peer}
use Rattle.session_answers.specs.Profiles.{stored_of}
use Rattle.session_answers.specs.declared.profiles.Profiles.{Profiles}

waits_in : (p : Kept) (due : ℕ) → phase_in p ≡ Waits due → IsWaitingIn p
waits_in phases.Reading due is = cc
waits_in (phases.Waits pending) due is = tt
waits_in (phases.Answered frame sent) due is = cc
waits_in phases.Silent due is = cc

-- who stands at a place waits
pub record IsFront (room : Room) (k id : ℕ) (peer : Peer) : Type 0 where
  pub there : slice_get room.peers.items k ≡ Some peer
  pub own : peer.id ≡ id
  pub waits : IsWaitingIn peer.phase

module _ (room : Room) (held : IsHeld room) (id : ℕ) (rest : List ℕ) (first : room.desk.queue.items ≡ id ∷ rest) where
  -- the one that waited longest is known, and waits
  abbrev front : IsWaiting (state_in room) id
  front = held.sound.queued.waits id (subst (λ (l : List ℕ). IsAmong id l) (sym first) (inl refl))

  -- so it has a place
  pub front_place : (found : Result ℕ ℕ) → IfErr found (IsGapFor room.peers.items id) → IsOk found
  front_place (Err k) gap =
      let clash : Some front.c ≡ None = sym front.known ∙ known_gap room.peers.items id k gap in
      absurd (cc)
  front_place (Ok k) is = refl

  -- the one that stands there waits
  pub front_waits : (k : ℕ) (peer : Peer) → IsAt room.peers.items id k → peer ≡ get_or room.peers.items k peer → IsFront room k id peer
  front_waits k peer place is =
      let here = at_here room.peers.items id k peer place is in
      let one : Some (connection_of peer) ≡ Some front.c = sym (there_known room held k peer here.0) ∙ ap (state_in room).known here.1
      ∙ front.known in
      let alike : connection_of peer ≡ front.c = cc in
      record {
        there = here.0;
        own = here.1;
        waits = waits_in peer.phase front.due (ap (λ (d : Connection). d.phase) alike ∙ front.phase);
      }

-- it has its turn
module _ (room new : Room) (held : IsHeld room) (k : ℕ) (peer made : Peer) (back : IsReplaced room new k peer made) where
  pub works_by : (id : ℕ) (desk : Desk) → room.desk.queue.items ≡ id ∷ desk.queue.items → peer.id ≡ id →
      Makes desk new.desk (HasTurn desk (connection_of peer)) peer.id peer.away made → desk.world ≡ room.desk.world →
      desk.profiles ≡ room.desk.profiles → desk.labels ≡ room.desk.labels → desk.kept ≡ room.desk.kept → Becomes room new (Works (service_in room) (state_in room))
  works_by id desk first own makes world profiles labels kept =
      let known = there_known room held k peer back.there in
      let service : service_at desk ≡ service_in room = λ i. service_at (record desk { world = world i; profiles = profiles i; labels = labels i }) in
      let goes = subst (λ (v : Service). GoesOn v (stored_of desk.profiles) (connection_of peer) (connection_of made)) service
      makes.is.0 in
      let goes_too = subst (λ (p : Profiles). GoesOn (service_in room) (stored_of p) (connection_of peer) (connection_of made)) profiles
      goes in
      let state : state_in new ≡ changed (record (state_in room) { waiting = desk.queue.items }) peer.id (connection_of made) [] =
      made_state room new held k peer made back desk _ makes world profiles labels kept
      ∙ ap (changed (record (state_in room) { waiting = desk.queue.items }) peer.id (connection_of made)) makes.is.1 in
      let works : Works (service_in room) (state_in room) (state_in new) =
      subst (Works (service_in room) (state_in room)) (sym state)
      (steps.turn {id = peer.id} {rest = desk.queue.items} {c = connection_of peer} {now = connection_of made}
      (first ∙ ap (λ (i : ℕ). i ∷ desk.queue.items) (sym own)) known goes_too) in
      made_becomes room new held k peer made back desk _ makes world profiles labels kept (Works (service_in room) (state_in room)) works
      (sound_works (service_in room) (state_in room) held.sound (state_in new) works)
