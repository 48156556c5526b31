-- What a session is given that is read.
use Rattle.std.proofs.Common.{◌≡◌, ℕ, false, get_or, Some, refl, sym, ◌∙◌, ap, subst}
use Rattle.std.specs.Prelude.{slice_get}
use Rattle.hall.proofs.PeerFindLemmas.{at_here, at_read}
use Rattle.hall.proofs.RoomLemmas.{Becomes, IsReplaced, made_state, made_becomes, there_known}
use Rattle.hall.proofs.SoundInLemmas.{read_sound}
use Rattle.hall.proofs.SoundLemmas.{sound_hears, IsHearing}
use Rattle.hall.specs.Parts.{IsHeld, IsReader, Settles, connection_of, phase_in, service_in, state_in}
use Rattle.hall.specs.State.{Connection, Reading}
use Rattle.hall.specs.Steps as steps
use Rattle.hall.specs.Steps.{Hears}
use Rattle.hall.specs.declared.room.Room.{Room}
use Rattle.hall.specs.declared.peer.Phase.TheVariants as phases
use Rattle.hall.specs.declared.peer.Peer.{Peer}

-- who stands at a place is read, and its peer didn't end
pub record IsRead (room : Room) (k id : ℕ) (peer : Peer) : Type 0 where
  pub there : slice_get room.peers.items k ≡ Some peer
  pub own : peer.id ≡ id
  pub reads : peer.phase ≡ phases.Reading
  pub unended : peer.ended ≡ false

pub reader_is : (room : Room) (held : IsHeld room) (k id : ℕ) (peer : Peer) → IsReader room.peers.items id k →
    peer ≡ get_or room.peers.items k peer → IsRead room k id peer
reader_is room held k id peer reader is =
    let here = at_here room.peers.items id k peer reader.place is in
    let reads : peer.phase ≡ phases.Reading =
    ap (λ (x : Peer). x.phase) (at_read room.peers.items id k peer reader.place is) ∙ reader.reads in
    record {
      there = here.0;
      own = here.1;
      reads = reads;
      unended = (read_sound (service_in room) (state_in room).stored (connection_of peer) (connection_of peer).phase
          (held.sound.sound peer.id (connection_of peer) (there_known room held k peer here.0)) (ap phase_in reads)).1;
    }

-- it is given what is fixed for it
module _ (room new : Room) (held : IsHeld room) (k : ℕ) (peer made : Peer) (back : IsReplaced room new k peer made) where
  pub hears_by : (id : ℕ) (heard : Connection → Connection) → IsHearing heard → IsRead room k id peer →
      Settles room.desk new.desk (connection_of peer) (heard (connection_of peer)) peer.id peer.away made →
      Becomes room new (Hears (service_in room) (state_in room) id heard)
  hears_by id heard alike reader settles =
      let known = there_known room held k peer back.there in
      let reads : (connection_of peer).phase ≡ Reading = ap phase_in reader.reads in
      let state = made_state room new held k peer made back room.desk _ settles refl refl refl refl in
      let hears : Hears (service_in room) (state_in room) peer.id heard (state_in new) =
      subst (Hears (service_in room) (state_in room) peer.id heard) (sym state) (steps.kept known reads settles.is) in
      subst (λ (i : ℕ). Becomes room new (Hears (service_in room) (state_in room) i heard)) reader.own
      (made_becomes room new held k peer made back room.desk _ settles refl refl refl refl
      (Hears (service_in room) (state_in room) peer.id heard) hears
      (sound_hears (service_in room) (state_in room) held.sound peer.id heard (state_in new) alike hears))
