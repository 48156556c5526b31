-- A room stays as it has to be by what calls change of one connection.
use Rattle.std.proofs.Common.{◌≡◌, ◌≤◌, ◌==◌, ◌+◌, ℕ, Bool, cond, List, [], ◌++◌, set, take, Option, Some, inl, inr, refl, sym, ◌∙◌, ap, subst, arith, append-nil, length-append}
use Rattle.std.specs.Bool.{beq}
use Rattle.std.specs.Prelude.{slice_get}
use Rattle.std.specs.Vec.{vec_capacity}
use Rattle.hall.proofs.PeerCountLemmas.{count_now}
use Rattle.hall.proofs.PeerLemmas.{Swaps, ascending_now, known_now, known_of, known_one, one_at, one_now, swaps_set}
use Rattle.hall.specs.Held.{most_sessions}
use Rattle.hall.specs.Parts.{AreReadied, IsHeld, IsSearchAt, IsSearchIn, IsSearching, Makes, connection_of, count_of, entries_of, most_peers, service_at, service_in, site_at, state_in}
use Rattle.hall.specs.Sound.{IsSound}
use Rattle.hall.specs.State.{site_in, Connection, Service, State, changed, waits_as}
use Rattle.hall.specs.View.{known_at}
use Rattle.hall.specs.declared.desk.Desk.{Desk}
use Rattle.hall.specs.declared.room.Room.{Room}
use Rattle.hall.specs.declared.peer.Phase.TheVariants as phases
use Rattle.hall.specs.declared.peer.Phase.{Phase as Kept}
use Rattle.hall.specs.declared.peer.Peer.{Peer}
use Rattle.route_ready.specs.World.{world_of}
use Rattle.route_ready.specs.Worlds.{WorldValue}
use Rattle.session_answers.proofs.CallerLemmas.{job_more, job_stays}
use Rattle.session_answers.specs.Kept.{StayAwaited}
use Rattle.session_answers.specs.Profiles.{stored_of}
use Rattle.session_answers.specs.Received.{received_of}
use Rattle.session_answers.specs.Sites.{Site}
use Rattle.session_answers.specs.Stored.{Stored}
use Rattle.session_answers.specs.Verdicts.{part}
use Rattle.session_answers.specs.declared.kept.KeptProfiles.{KeptProfiles}
use Rattle.session_answers.specs.declared.profiles.Profiles.{Profiles}

-- ---- Searches

-- a search is that of its connection while more profiles are stored
search_more : (site : Site) (stored more : List Stored) (old new : KeptProfiles) → StayAwaited site.world old new → (bytes : List ℕ)
    (ended : Bool) (whole : Option ℕ) (p : Kept) →
    IsSearchIn site stored old bytes ended whole p → IsSearchIn site (stored ++ more) new bytes ended whole p
search_more site stored more old new stay bytes ended whole phases.Reading is = tt
search_more site stored more old new stay bytes ended whole (phases.Waits pending) is = record {
  before = is.before;
  aim = is.aim;
  span = is.span;
  verdict = is.verdict;
  whole_is = is.whole_is;
  within = omega (arith, is.within, length-append stored more);
  job = job_stays site is.aim (part bytes is.span) pending (take is.before (stored ++ more)) old new stay
      (job_more site is.aim (part bytes is.span) pending old is.before stored more is.within is.job);
}
search_more site stored more old new stay bytes ended whole (phases.Answered frame sent) is = tt
search_more site stored more old new stay bytes ended whole phases.Silent is = tt

-- so at a desk
search_at : (old new : Desk) (added : List Stored) (peer : Peer) → site_at new ≡ site_at old →
    stored_of new.profiles ≡ stored_of old.profiles ++ added → StayAwaited (world_of old.world) old.kept new.kept →
    IsSearchAt old peer → IsSearchAt new peer
search_at old new added peer site stored stay is =
    subst (λ (w : Site). IsSearching w (stored_of new.profiles) new.kept peer) (sym site)
    (subst (λ (l : List Stored). IsSearching (site_at old) l new.kept peer) (sym stored)
    (search_more (site_at old) (stored_of old.profiles) added old.kept new.kept stay (received_of peer.received) peer.ended peer.before
    peer.phase is))

-- what is kept the same stays awaited
pub stay-same : (world : WorldValue) (old new : KeptProfiles) → new ≡ old → StayAwaited world old new
stay-same world old new same = subst (λ (k : KeptProfiles). StayAwaited world old k) (sym same) (λ place overrides left k is. is)

-- a room stays as it has to be where other profiles are kept and all who waited may wait on
pub held-again : (room : Room) (kept : KeptProfiles) → IsHeld room → AreReadied (record room.desk { kept = kept }) →
    StayAwaited (world_of room.desk.world) room.desk.kept kept → IsHeld (record room { desk = record room.desk { kept = kept } })
held-again room kept held are stay = record {
  sound = held.sound;
  ascending = held.ascending;
  roomy = held.roomy;
  few = held.few;
  searching = λ peer one.
      search_at room.desk (record room.desk { kept = kept }) [] peer refl (sym (append-nil (stored_of room.desk.profiles))) stay
      (held.searching peer one);
  kept = are;
}

-- ---- One connection changes

module _ (room new : Room) (id : ℕ) (was is : Option Peer) (swaps : Swaps room.peers.items new.peers.items id was is) where
  -- its state
  pub state_now : (stored : List Stored) (waiting : List ℕ) → stored_of new.desk.profiles ≡ stored → new.desk.queue.items ≡ waiting →
      ◌≡◌ {A = State} (state_in new)
      (record {
        stored = stored;
        waiting = waiting;
        known =
            λ j. cond (j == id) (known_of is) (known_at (entries_of room.peers.items) j);
      })
  state_now stored waiting same waits = λ i. record {
    stored = same i;
    waiting = waits i;
    known = λ j. known_now room.peers.items new.peers.items id was is swaps j i;
  }

  -- the room stays as it has to be
  pub held_now : IsHeld room → IsSound (service_in new) (state_in new) → most_peers ≤ vec_capacity new.peers →
      ((away : Bool) → count_of new.peers.items away ≤ most_sessions) →
      ((peer : Peer) → is ≡ Some peer → IsSearchAt new.desk peer) → (added : List Stored) →
      site_at new.desk ≡ site_at room.desk →
      stored_of new.desk.profiles ≡ stored_of room.desk.profiles ++ added → AreReadied new.desk →
      StayAwaited (world_of room.desk.world) room.desk.kept new.desk.kept → IsHeld new
  held_now held sound roomy few inside added site stored kept stay = record {
    sound = sound;
    ascending = ascending_now room.peers.items new.peers.items id was is swaps held.ascending;
    roomy = roomy;
    few = few;
    searching = λ peer one. elim (one_now room.peers.items new.peers.items id was is swaps peer one) [
      | inl now ↦ inside peer now
      | inr before ↦ search_at room.desk new.desk added peer site stored stay (held.searching peer before)
    ];
    kept = kept;
  }

-- what a room comes to
pub record Becomes (room new : Room) (relation : State → Type 0) : Type 0 where
  pub is : relation (state_in new)
  pub held : IsHeld new
  pub same : service_in new ≡ service_in room

-- ---- A connection changes and stays itself

-- one stood at a place, and this is there now
pub record IsReplaced (room new : Room) (k : ℕ) (peer made : Peer) : Type 0 where
  pub there : slice_get room.peers.items k ≡ Some peer
  pub now : new.peers.items ≡ set room.peers.items k made
  pub roomy : vec_capacity new.peers ≡ vec_capacity room.peers

-- so it is at the place of its id
pub swaps_replaced : (room new : Room) (held : IsHeld room) (k : ℕ) (peer made : Peer) → IsReplaced room new k peer made →
    made.id ≡ peer.id → Swaps room.peers.items new.peers.items peer.id (Some peer) (Some made)
swaps_replaced room new held k peer made back own =
    subst (λ (l : List Peer). Swaps room.peers.items l peer.id (Some peer) (Some made)) (sym back.now)
    (swaps_set room.peers.items k peer back.there held.ascending made own)

pub roomy_replaced : (room new : Room) (held : IsHeld room) (k : ℕ) (peer made : Peer) → IsReplaced room new k peer made →
    most_peers ≤ vec_capacity new.peers
roomy_replaced room new held k peer made back = omega (arith, held.roomy, back.roomy)

-- one that counts as it did leaves the counts as they were
pub few_alike : (room new : Room) (held : IsHeld room) (id : ℕ) (peer made : Peer) →
    Swaps room.peers.items new.peers.items id (Some peer) (Some made) → made.away ≡ peer.away →
    (away : Bool) → count_of new.peers.items away ≤ most_sessions
few_alike room new held id peer made swaps alike away =
    let is : ◌≡◌ {A = ℕ} (cond (beq made.away away) 1 0) (cond (beq peer.away away) 1 0) = ap (λ (a : Bool). cond (beq a away) 1 0) alike in
    omega (
      arith,
      count_now room.peers.items new.peers.items id (Some peer) (Some made) swaps away,
      is,
      held.few away,
    )

module _ (room new : Room) (held : IsHeld room) (k : ℕ) (peer made : Peer) (back : IsReplaced room new k peer made) (desk : Desk)
    (relation : Connection → List Stored → Type 0)
    (makes : Makes desk new.desk relation peer.id peer.away made) (world : desk.world ≡ room.desk.world) (profiles :
    desk.profiles ≡ room.desk.profiles) (labels : desk.labels ≡ room.desk.labels) (kept : desk.kept ≡ room.desk.kept) where
  swaps_made : Swaps room.peers.items new.peers.items peer.id (Some peer) (Some made)
  swaps_made = swaps_replaced room new held k peer made back makes.own

  stored_now : stored_of new.desk.profiles ≡ stored_of room.desk.profiles ++ makes.added
  stored_now = makes.stored ∙ ap (λ (p : Profiles). stored_of p ++ makes.added) profiles

  service_now : service_in new ≡ service_in room
  service_now = makes.same ∙ (λ i. service_at (record desk { world = world i; profiles = profiles i; labels = labels i }))

  -- its state, where these others wait
  pub made_state : state_in new ≡ changed (record (state_in room) { waiting = desk.queue.items }) peer.id (connection_of made) makes.added
  made_state =
      state_now room new peer.id (Some peer) (Some made) swaps_made (stored_of room.desk.profiles ++ makes.added)
      (desk.queue.items ++ waits_as (connection_of made).phase peer.id) stored_now makes.waiting

  pub made_becomes : (relates : State → Type 0) → relates (state_in new) → IsSound (service_in room) (state_in new) →
      Becomes room new relates
  made_becomes relates is sound = record {
    is = is;
    held = held_now room new peer.id (Some peer) (Some made) swaps_made held
        (subst (λ (v : Service). IsSound v (state_in new)) (sym service_now) sound)
        (roomy_replaced room new held k peer made back)
        (few_alike room new held peer.id peer made swaps_made makes.alike)
        (λ other is. let one : made ≡ other = cc in subst (IsSearchAt new.desk) one makes.searching)
        makes.added (ap site_in service_now) stored_now makes.kept
        (subst (λ (k : KeptProfiles). StayAwaited (world_of room.desk.world) k new.desk.kept) kept
        (subst (λ w. StayAwaited (world_of w) desk.kept new.desk.kept) world makes.stay));
    same = service_now;
  }

-- what is known of who stands at a place
pub there_known : (room : Room) (held : IsHeld room) (k : ℕ) (peer : Peer) → slice_get room.peers.items k ≡ Some peer →
    (state_in room).known peer.id ≡ Some (connection_of peer)
there_known room held k peer there =
    known_one room.peers.items peer held.ascending (one_at room.peers.items k peer there)
