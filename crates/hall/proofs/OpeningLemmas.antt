-- What a room comes to by a connection that opens.
use Rattle.std.proofs.Common.{◌≡◌, ◌<◌, ◌≤◌, ◌+◌, ℕ, Bool, true, false, cond, List, [], length, Option, Some, None, refl, sym, ◌∙◌, ap, subst, arith, append-nil}
use Rattle.std.specs.Bool.{beq}
use Rattle.std.specs.List.{insert}
use Rattle.std.specs.Vec.{vec_capacity}
use Rattle.hall.proofs.PeerCountLemmas.{count_all, count_now, counts}
use Rattle.hall.proofs.PeerLemmas.{Swaps, known_gap, swaps_insert}
use Rattle.hall.proofs.RoomLemmas.{Becomes, held_now, state_now, stay-same}
use Rattle.hall.proofs.SoundLemmas.{sound_opens}
use Rattle.hall.specs.Held.{HasRoom, IsFull, most_sessions}
use Rattle.hall.specs.Parts.{AreReadied, IsGapFor, IsHeld, IsSearchAt, IsSearchIn, connection_of, count_of, entry_of, most_peers, phase_in, service_at, service_in, site_at, state_in}
use Rattle.hall.specs.Sound.{IsSound}
use Rattle.hall.specs.State.{Connection, State, Waits, put}
use Rattle.hall.specs.Steps as steps
use Rattle.hall.specs.Steps.{Opens, session, turned_away}
use Rattle.hall.specs.View.{Entry}
use Rattle.hall.specs.declared.desk.Desk.{Desk}
use Rattle.hall.specs.declared.peer.Peer.{Peer}
use Rattle.hall.specs.declared.peer.Phase.TheVariants as phases
use Rattle.hall.specs.declared.peer.Phase.{Phase as Kept}
use Rattle.hall.specs.declared.room.Room.{Room}
use Rattle.route_ready.specs.World.{world_of}
use Rattle.session_answers.specs.declared.kept.KeptProfiles.{KeptProfiles}
use Rattle.session_answers.specs.Profiles.{stored_of}
use Rattle.session_answers.specs.Received.{received_of}
use Rattle.session_answers.specs.Sites.{Site}
use Rattle.session_answers.specs.Stored.{Stored}

-- where fewer count than may be, there is a place for one more
pub has_place : (room : Room) (held : IsHeld room) (away : Bool) → count_of room.peers.items away < most_sessions →
    length room.peers.items < vec_capacity room.peers
has_place room held true few = omega (arith, few, held.few false, held.roomy, count_all room.peers.items)
has_place room held false few = omega (arith, few, held.few true, held.roomy, count_all room.peers.items)

-- there is room, or as many are held as may be
pub has_room : (room : Room) (held : IsHeld room) (away : Bool) → count_of room.peers.items away < most_sessions →
    HasRoom (state_in room) away
has_room room held away few =
    (count_of room.peers.items away, counts (state_in room) room.peers.items away refl held.ascending, few)

pub is_full : (room : Room) (held : IsHeld room) (away : Bool) → most_sessions ≤ count_of room.peers.items away →
    IsFull (state_in room) away
is_full room held away many =
    (count_of room.peers.items away, counts (state_in room) room.peers.items away refl held.ascending, many)

-- where no search waits, none has to be that of its connection
still_in : (site : Site) (stored : List Stored) (kept : KeptProfiles) (bytes : List ℕ) (ended : Bool) (whole : Option ℕ) (p : Kept) →
    ((due : ℕ) → phase_in p ≡ Waits due → ⊥) → IsSearchIn site stored kept bytes ended whole p
still_in site stored kept bytes ended whole phases.Reading still = tt
still_in site stored kept bytes ended whole (phases.Waits pending) still = absurd (still pending.left refl)
still_in site stored kept bytes ended whole (phases.Answered frame sent) still = tt
still_in site stored kept bytes ended whole phases.Silent still = tt

few_more : (peers : List Peer) (away b : Bool) → ((x : Bool) → count_of peers x ≤ most_sessions) →
    count_of peers away < most_sessions → count_of peers b + cond (beq away b) 1 0 ≤ most_sessions
few_more peers true true all few = omega (arith, few)
few_more peers false false all few = omega (arith, few)
few_more peers true false all few = omega (arith, all false)
few_more peers false true all few = omega (arith, all true)

-- a connection that wasn't held got its place, and this is known of it
pub record GetsPlace (room new : Room) (id k : ℕ) (c : Connection) : Type 0 where
  pub gap : IsGapFor room.peers.items id k
  pub peer : Peer
  pub desk : new.desk ≡ room.desk
  pub placed : new.peers.items ≡ insert room.peers.items k peer
  pub roomy : vec_capacity room.peers ≤ vec_capacity new.peers
  pub is : ◌≡◌ {A = Entry} (entry_of peer) (record { id = id; known = c })

module _ (room new : Room) (held : IsHeld room) (id k : ℕ) (c : Connection) (gets : GetsPlace room new id k c) where
  own_is : gets.peer.id ≡ id
  own_is = ap (λ (x : Entry). x.id) gets.is

  known_is : connection_of gets.peer ≡ c
  known_is = ap (λ (x : Entry). x.known) gets.is

  -- nothing was known of it
  none_is : (state_in room).known id ≡ None
  none_is = known_gap room.peers.items id k gets.gap

  swaps_new : Swaps room.peers.items new.peers.items id None (Some gets.peer)
  swaps_new =
      subst (λ (l : List Peer). Swaps room.peers.items l id None (Some gets.peer)) (sym gets.placed)
      (swaps_insert room.peers.items id k gets.peer gets.gap own_is)

  stored_same : stored_of new.desk.profiles ≡ stored_of room.desk.profiles
  stored_same = ap (λ (d : Desk). stored_of d.profiles) gets.desk

  opened_state : state_in new ≡ put (state_in room) id (Some c)
  opened_state =
      state_now room new id None (Some gets.peer) swaps_new (stored_of room.desk.profiles) room.desk.queue.items stored_same
      (ap (λ (d : Desk). d.queue.items) gets.desk)
      ∙ ap (λ (d : Connection). put (state_in room) id (Some d)) known_is

  -- its count is one more
  few_now : count_of room.peers.items c.away < most_sessions → (away : Bool) → count_of new.peers.items away ≤ most_sessions
  few_now few away =
      let more = subst (λ (b : Bool). count_of room.peers.items away + cond (beq b away) 1 0 ≤ most_sessions)
      (sym (ap (λ (d : Connection). d.away) known_is))
      (few_more room.peers.items c.away away held.few few) in
      omega (arith, count_now room.peers.items new.peers.items id None (Some gets.peer) swaps_new away, more)

  searching_now : ((due : ℕ) → c.phase ≡ Waits due → ⊥) → (peer : Peer) → Some gets.peer ≡ Some peer → IsSearchAt new.desk peer
  searching_now still peer is =
      let one : gets.peer ≡ peer = cc in
      subst (IsSearchAt new.desk) one
      (still_in (site_at new.desk) (stored_of new.desk.profiles) new.desk.kept (received_of gets.peer.received) gets.peer.ended
      gets.peer.before gets.peer.phase
      (λ due waits. still due (sym (ap (λ (d : Connection). d.phase) known_is) ∙ waits)))

  opens_by : ((due : ℕ) → c.phase ≡ Waits due → ⊥) → count_of room.peers.items c.away < most_sessions →
      Opens (state_in room) id (put (state_in room) id (Some c)) None →
      Becomes room new (λ (s : State). Opens (state_in room) id s None)
  opens_by still few opens =
      let now : Opens (state_in room) id (state_in new) None =
      subst (λ (s : State). Opens (state_in room) id s None) (sym opened_state) opens in
      let roomy : most_peers ≤ vec_capacity new.peers = omega (arith, held.roomy, gets.roomy) in
      record {
        is = now;
        held = held_now room new id None (Some gets.peer) swaps_new held
            (subst (λ (d : Desk). IsSound (service_at d) (state_in new)) (sym gets.desk)
            (sound_opens (service_in room) (state_in room) held.sound id (state_in new) None now))
            roomy (few_now few) (searching_now still)
            [] (ap site_at gets.desk) (stored_same ∙ sym (append-nil (stored_of room.desk.profiles)))
            (subst AreReadied (sym gets.desk) held.kept)
            (stay-same (world_of room.desk.world) room.desk.kept new.desk.kept (ap (λ (d : Desk). d.kept) gets.desk));
        same = ap service_at gets.desk;
      }

-- a new session, and a connection that is turned away
pub opens_held : (room new : Room) (held : IsHeld room) (id k : ℕ) → GetsPlace room new id k session →
    count_of room.peers.items false < most_sessions → Becomes room new (λ (s : State). Opens (state_in room) id s None)
opens_held room new held id k gets few =
    opens_by room new held id k session gets (λ due waits. cc) few
    (steps.held (known_gap room.peers.items id k gets.gap) (has_room room held false few))

pub opens_away : (room new : Room) (held : IsHeld room) (id k : ℕ) → GetsPlace room new id k turned_away →
    IsFull (state_in room) false → count_of room.peers.items true < most_sessions →
    Becomes room new (λ (s : State). Opens (state_in room) id s None)
opens_away room new held id k gets full few =
    opens_by room new held id k turned_away gets (λ due waits. cc) few
    (steps.away (known_gap room.peers.items id k gets.gap) full (has_room room held true few))
