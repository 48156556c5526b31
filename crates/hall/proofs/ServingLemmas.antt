-- What is left of a connection that is served, and of its room.
use Rattle.std.proofs.Common.{◌≡◌, ◌≤◌, ℕ, zero, suc, Bool, List, [], ◌∷◌, ◌++◌, length, set, take, drop, Option, Some, None, refl, sym, ◌∙◌, ap, subst, arith, append-nil}
use Rattle.std.specs.List.{remove}
use Rattle.std.specs.Prelude.{slice_get}
use Rattle.std.specs.Vec.{vec_capacity}
use Rattle.std.proofs.lemmas.List.{take_all}
use Rattle.edge_io.specs.Acts.{Took, Broke, Closed}
use Rattle.edge_io.specs.Hub.{Breaks, Closes as ClosesAt, HubSeen, IsLive, Takes as TakesAt}
use Rattle.edge_io.proofs.CallerLemmas.{Tells-live, Tells-none}
use Rattle.hall.proofs.HubLemmas.{live_more, sends_own, serves_live}
use Rattle.hall.proofs.GoneLemmas.{WaitsNoMore, gone_state, gone_becomes}
use Rattle.hall.proofs.RoomLemmas.{IsReplaced, few_alike, held_now, roomy_replaced, state_now, stay-same, swaps_replaced, there_known}
use Rattle.hall.proofs.PeerCountLemmas.{all_ids, ids_of}
use Rattle.hall.proofs.PeerLemmas.{Swaps, one_at, swaps_remove}
use Rattle.hall.proofs.SoundInLemmas.{left_serves, piece_fits}
use Rattle.hall.proofs.SoundLemmas.{sound_left}
use Rattle.hall.specs.Parts.{AreReadied, FitsUnsent, IsHeld, IsSearchAt, IsSearchIn, Keeps, connection_of, most_peers, phase_in, sent_in, service_at, service_in, state_in, site_at}
use Rattle.hall.specs.Sends.{IsDone, IsPiece, nothing, taken, broken, stays, done, sent_more}
use Rattle.hall.specs.Serving.{AreLive, ClosedDone, SentPiece, ServedAll, ServedEach, ServedOne, ServedPeer}
use Rattle.hall.specs.Sound.{IsSound}
use Rattle.hall.specs.State.{Answered, Connection, Phase, Reading, Service, Silent, State, Waits, left_as, put}
use Rattle.hall.specs.declared.desk.Desk.{Desk}
use Rattle.hall.specs.declared.room.Room.{Room}
use Rattle.hall.specs.declared.peer.Phase.{Phase as Kept}
use Rattle.hall.specs.declared.peer.Phase.TheVariants as phases
use Rattle.hall.specs.declared.peer.Peer.{Peer}
use Rattle.route_ready.specs.World.{world_of}
use Rattle.session_answers.specs.Profiles.{stored_of}
use Rattle.session_answers.specs.Received.{received_of}
use Rattle.session_answers.specs.Sites.{Site}
use Rattle.session_answers.specs.Stored.{Stored}
use Rattle.session_answers.specs.declared.kept.KeptProfiles.{KeptProfiles}

-- ---- One connection

-- what was taken of a piece is no more than is left of the frame
pub fits_piece : (p : Phase) (piece : List ℕ) (n : ℕ) → IsPiece p piece → n ≤ length piece → FitsUnsent p n
fits_piece Reading piece n is fits = tt
fits_piece (Waits due) piece n is fits = tt
fits_piece (Answered frame sent) piece n is fits = piece_fits frame piece sent n is fits
fits_piece Silent piece n is fits = tt

sent_phase : (p : Kept) (n : ℕ) → phase_in (sent_in p n) ≡ sent_more (phase_in p) n
sent_phase phases.Reading n = refl
sent_phase (phases.Waits pending) n = refl
sent_phase (phases.Answered frame sent) n = refl
sent_phase phases.Silent n = refl

sent_search : (site : Site) (stored : List Stored) (kept : KeptProfiles) (bytes : List ℕ) (ended : Bool) (whole : Option ℕ) (p : Kept)
    (n : ℕ) → IsSearchIn site stored kept bytes ended whole p → IsSearchIn site stored kept bytes ended whole (sent_in p n)
sent_search site stored kept bytes ended whole phases.Reading n is = tt
sent_search site stored kept bytes ended whole (phases.Waits pending) n is = is
sent_search site stored kept bytes ended whole (phases.Answered frame sent) n is = tt
sent_search site stored kept bytes ended whole phases.Silent n is = tt

-- one that is served has its id and its search
pub keeps_same : (peer : Peer) → Keeps peer peer
keeps_same peer = record { own = refl; alike = refl; searching = λ site stored kept is. is }

pub keeps_further : (peer : Peer) (phase : Kept) (n : ℕ) → phase ≡ sent_in peer.phase n → Keeps peer (record peer { phase = phase })
keeps_further peer phase n same =
    subst (λ (p : Kept). Keeps peer (record peer { phase = p })) (sym same)
    (record {
      own = refl;
      alike = refl;
      searching = λ site stored kept is.
          sent_search site stored kept (received_of peer.received) peer.ended peer.before peer.phase n is;
    })

-- ---- A send

pub sent_none : (id : ℕ) (c : Connection) (seen : HubSeen) → ((piece : List ℕ) → IsPiece c.phase piece → ⊥) →
    SentPiece id c seen (Some c) seen
sent_none id c seen none = record { acts = []; sends = nothing none; goes = record { tells = Tells-none seen.acts; faults = refl } }

pub sent_taken : (peer : Peer) (phase : Kept) (piece : List ℕ) (n : ℕ) (old new : HubSeen) → IsPiece (phase_in peer.phase) piece →
    n ≤ length piece → phase ≡ sent_in peer.phase n → TakesAt old new peer.id piece n →
    SentPiece peer.id (connection_of peer) old (Some (connection_of (record peer { phase = phase }))) new
sent_taken peer phase piece n old new is fits same takes =
    let now : phase_in phase ≡ sent_more (phase_in peer.phase) n = ap phase_in same ∙ sent_phase peer.phase n in
    subst (λ (p : Phase). SentPiece peer.id (connection_of peer) old (Some (record (connection_of peer) { phase = p })) new) (sym now)
    (record {
      acts = Took peer.id (take n piece) ∷ [];
      sends = taken piece n is fits;
      goes =
          record { tells = takes.acts; faults = takes.faults };
    })

pub sent_broken : (id : ℕ) (c : Connection) (piece : List ℕ) (old new : HubSeen) → IsPiece c.phase piece → IsLive old.acts id →
    Breaks old new id → SentPiece id c old None new
sent_broken id c piece old new is live breaks = record {
  acts = Broke id ∷ [];
  sends = broken piece is;
  goes = record { tells = Tells-live old.acts new.acts id (Broke id) live breaks.acts; faults = breaks.faults };
}

-- the hub holds who is held after a send
pub sent_live : (id : ℕ) (c d : Connection) (old new : HubSeen) → SentPiece id c old (Some d) new → IsLive old.acts id → IsLive new.acts id
sent_live id c d old new sent live =
    live_more old.acts new.acts id sent.acts sent.goes.tells (sends_own id c d sent.acts (Some d) refl sent.sends) live

-- ---- The close

pub closed_done : (id : ℕ) (c : Connection) (old new : HubSeen) → IsDone c.phase → IsLive old.acts id → ClosesAt old new id →
    ClosedDone id c old None new
closed_done id c old new is live closes = record {
  acts = Closed id ∷ [];
  closes = done is;
  goes = record { tells = Tells-live old.acts new.acts id (Closed id) live closes.acts; faults = closes.faults };
}

pub closed_none : (id : ℕ) (c : Connection) (seen : HubSeen) → (IsDone c.phase → ⊥) → ClosedDone id c seen (Some c) seen
closed_none id c seen open_still = record {
  acts = [];
  closes = stays open_still;
  goes =
      record { tells = Tells-none seen.acts; faults = refl };
}

-- ---- A place

drop_set : (peers : List Peer) (k : ℕ) (x : Peer) → drop (suc k) (set peers k x) ≡ drop (suc k) peers
drop_set [] k x = refl
drop_set (y ∷ peers) zero x = refl
drop_set (y ∷ peers) (suc k) x = drop_set peers k x

drop_remove : (peers : List Peer) (k : ℕ) → drop k (remove peers k) ≡ drop (suc k) peers
drop_remove [] zero = refl
drop_remove [] (suc k) = refl
drop_remove (y ∷ peers) zero = refl
drop_remove (y ∷ peers) (suc k) = drop_remove peers k

take_set : (peers : List Peer) (k : ℕ) (x : Peer) → take k (set peers k x) ≡ take k peers
take_set [] zero x = refl
take_set [] (suc k) x = refl
take_set (y ∷ peers) zero x = refl
take_set (y ∷ peers) (suc k) x = ap (λ (l : List Peer). y ∷ l) (take_set peers k x)

-- who changed and is gone is gone
pub remove_set : (peers : List Peer) (k : ℕ) (x : Peer) → remove (set peers k x) k ≡ remove peers k
remove_set peers k x = λ i. take_set peers k x i ++ drop_set peers k x i

-- what a room comes to by serving who stands at a place
pub record PlaceServed (room new : Room) (k : ℕ) (next : ℕ) (old seen : HubSeen) : Type 0 where
  pub served : (peer : Peer) → slice_get room.peers.items k ≡ Some peer →
      ServedPeer peer.id (connection_of peer) (state_in room) old (state_in new) seen
  pub rest : drop next new.peers.items ≡ drop (suc k) room.peers.items
  pub live : AreLive (state_in new) seen
  pub held : IsHeld new
  pub same : service_in new ≡ service_in room

module _ (room new : Room) (held : IsHeld room) (k : ℕ) (peer : Peer) (there : slice_get room.peers.items k ≡ Some peer)
    (left : Option Connection) (old seen : HubSeen) (live : AreLive (state_in room) old)
    (one : ServedOne peer.id (connection_of peer) old left seen) where
  known_there : (state_in room).known peer.id ≡ Some (connection_of peer)
  known_there = there_known room held k peer there

  -- it was served, and this is left of it
  pub place_left : (next : ℕ) → drop next new.peers.items ≡ drop (suc k) room.peers.items → IsHeld new →
      service_in new ≡ service_in room → state_in new ≡ left_as (state_in room) peer.id left → PlaceServed room new k next old seen
  place_left next rest kept same state = record {
    served = λ other is.
        (let alike : Some peer ≡ Some other = sym there ∙ is in
        let it : peer ≡ other = cc in
        subst (λ (p : Peer). ServedPeer p.id (connection_of p) (state_in room) old (state_in new) seen) it
        (record { known = known_there; rest = left; one = one; left_is = state }));
    rest = rest;
    live =
        subst (λ (s : State). AreLive s seen) (sym state)
        (serves_live (state_in room) peer.id (connection_of peer) one.acts left old seen live known_there one.serves one.goes.tells);
    held = kept;
    same = same;
  }

  -- its state is sound
  pub left_is_sound : IsSound (service_in room) (left_as (state_in room) peer.id left)
  left_is_sound =
      sound_left (service_in room) (state_in room) held.sound peer.id (connection_of peer) left known_there
      (left_serves peer.id (connection_of peer) one.acts left one.serves)

-- it stays
pub place_kept : (room new : Room) (held : IsHeld room) (k : ℕ) (peer made : Peer) → IsReplaced room new k peer made →
    new.desk ≡ room.desk → (old seen : HubSeen) → AreLive (state_in room) old → Keeps peer made →
    ServedOne peer.id (connection_of peer) old (Some (connection_of made)) seen → PlaceServed room new k (suc k) old seen
place_kept room new held k peer made back desk old seen live keeps one =
    let swaps = swaps_replaced room new held k peer made back keeps.own in
    let stored = ap (λ (d : Desk). stored_of d.profiles) desk in
    let same = ap service_at desk in
    let state : state_in new ≡ put (state_in room) peer.id (Some (connection_of made)) =
    state_now room new peer.id (Some peer) (Some made) swaps (stored_of room.desk.profiles) room.desk.queue.items stored
    (ap (λ (d : Desk). d.queue.items) desk) in
    let sound = left_is_sound room new held k peer back.there (Some (connection_of made)) old seen live one in
    place_left room new held k peer back.there (Some (connection_of made)) old seen live one (suc k)
    (ap (drop (suc k)) back.now ∙ drop_set room.peers.items k made)
    (held_now room new peer.id (Some peer) (Some made) swaps held
    (subst (λ (v : Service). IsSound v (state_in new)) (sym same) (subst (IsSound (service_in room)) (sym state) sound))
    (roomy_replaced room new held k peer made back)
    (few_alike room new held peer.id peer made swaps keeps.alike)
    (λ other is.
    let alike : made ≡ other = cc in
    subst (IsSearchAt new.desk) alike
    (subst (λ (d : Desk). IsSearchAt d made) (sym desk)
    (keeps.searching (site_at room.desk) (stored_of room.desk.profiles) room.desk.kept
    (held.searching peer (one_at room.peers.items k peer back.there)))))
    [] (ap site_at desk) (stored
    ∙ sym (append-nil (stored_of room.desk.profiles))) (subst AreReadied (sym desk) held.kept)
    (stay-same (world_of room.desk.world) room.desk.kept new.desk.kept (ap (λ (d : Desk). d.kept) desk)))
    same state

-- it is gone
pub place_gone : (room new : Room) (held : IsHeld room) (k : ℕ) (peer : Peer) → slice_get room.peers.items k ≡ Some peer →
    new.peers.items ≡ remove room.peers.items k → vec_capacity new.peers ≡ vec_capacity room.peers →
    WaitsNoMore room new peer.id → (old seen : HubSeen) → AreLive (state_in room) old →
    ServedOne peer.id (connection_of peer) old None seen → PlaceServed room new k k old seen
place_gone room new held k peer there now capacity left old seen live one =
    let swaps : Swaps room.peers.items new.peers.items peer.id (Some peer) None =
    subst (λ (l : List Peer). Swaps room.peers.items l peer.id (Some peer) None) (sym now)
    (swaps_remove room.peers.items k peer there held.ascending) in
    let roomy : most_peers ≤ vec_capacity new.peers = omega (arith, held.roomy, capacity) in
    let state = gone_state room new held peer.id (Some peer) swaps roomy left in
    let sound = subst (IsSound (service_in room)) (sym state)
    (left_is_sound room new held k peer there None old seen live one) in
    let becomes = gone_becomes room new held peer.id (Some peer) swaps roomy left (λ (s : State). s ≡ state_in new) refl sound in
    place_left room new held k peer there None old seen live one k
    (ap (drop k) now ∙ drop_remove room.peers.items k) becomes.held left.same state

-- ---- All connections

-- who stands behind so many others is the next, where as many behind it are left
pub next_there : (peers : List Peer) (k : ℕ) (peer : Peer) (rest : List Peer) → drop k peers ≡ peer ∷ rest →
    slice_get peers k ≡ Some peer
next_there [] zero peer rest is = cc
next_there [] (suc k) peer rest is = cc
next_there (x ∷ peers) zero peer rest is = let same : x ≡ peer = cc in ap (λ (y : Peer). Some y) same
next_there (x ∷ peers) (suc k) peer rest is = next_there peers k peer rest is

pub next_rest : (peers : List Peer) (k : ℕ) (peer : Peer) (rest : List Peer) → drop k peers ≡ peer ∷ rest → drop (suc k) peers ≡ rest
next_rest [] zero peer rest is = cc
next_rest [] (suc k) peer rest is = cc
next_rest (x ∷ peers) zero peer rest is = cc
next_rest (x ∷ peers) (suc k) peer rest is = next_rest peers k peer rest is

-- all are served, in the order of their ids
pub all_served : (room : Room) (held : IsHeld room) (n : ℕ) → length room.peers.items ≤ n → (left : State) (old new : HubSeen) →
    ServedEach (state_in room) old (ids_of (take n room.peers.items)) left new → ServedAll (state_in room) old left new
all_served room held n whole left old new each = record {
  order = ids_of room.peers.items;
  all = all_ids (state_in room) room.peers.items refl held.ascending;
  each = subst (λ (l : List Peer). ServedEach (state_in room) old (ids_of l) left new) (take_all n room.peers.items whole) each;
}
