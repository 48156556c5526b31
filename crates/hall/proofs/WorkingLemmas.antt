-- What a turn of a search changes.
use Rattle.std.proofs.Common.{◌≡◌, ℕ, suc, List, [], ◌∷◌, ◌++◌, length, take, drop, refl, sym, ◌∙◌, ap, subst, arith, append-nil, length-drop}
use Rattle.hall.specs.Parts.{AreReadied, HasTurn, IsSearchAt, IsSearchOf, Joins, Makes, answered_by, connection_of, frame_in, last, none, entries_of, service_at, service_in, site_at, state_in, waiting_by, waiting_for}
use Rattle.hall.specs.State.{Connection, Waits, with_frame}
use Rattle.hall.specs.Steps.{AskedBy, GoesOn, Works}
use Rattle.hall.specs.Steps as steps
use Rattle.hall.specs.View.{known_at}
use Rattle.hall.specs.declared.desk.Desk.{Desk}
use Rattle.hall.specs.declared.room.Room.{Room}
use Rattle.hall.specs.declared.peer.Frame.{Frame}
use Rattle.hall.specs.declared.peer.Frame.TheVariants as frames
use Rattle.hall.specs.declared.peer.Peer.{Peer}
use Rattle.route_ready.specs.World.{world_of}
use Rattle.session_answers.specs.Jobs.{AreKept, IsJobOf}
use Rattle.session_answers.specs.Kept.{StayAwaited}
use Rattle.session_answers.specs.declared.kept.KeptProfiles.{KeptProfiles}
use Rattle.session_answers.specs.Profiles.{stored_of}
use Rattle.session_answers.specs.Received.{received_of}
use Rattle.session_answers.specs.Rows.{IsQueryFrame}
use Rattle.session_answers.specs.Verdicts.{part}
use Rattle.session_answers.specs.declared.search.Search.{Search}

module _ (desk : Desk) (peer : Peer) (pending : Search)
    (search : IsSearchOf (site_at desk) (stored_of desk.profiles) desk.kept (received_of peer.received) peer.ended peer.before pending)
    (kept : KeptProfiles) (are : AreKept (world_of desk.world) (stored_of desk.profiles) kept)
    (stay : StayAwaited (world_of desk.world) desk.kept kept) where
  -- the connection as it waited
  abbrev waited : Connection
  waited = waiting_for (connection_of peer) pending.left

  -- a desk at which only the profiles change that are made ready
  abbrev next : Desk
  next = record desk { kept = kept }

  -- it gets a frame
  framed : (made : Peer) (frame : Frame) → made ≡ answered_by peer frame →
      GoesOn (service_at desk) (stored_of desk.profiles) waited (with_frame waited (frame_in frame)) →
      Makes desk next (HasTurn desk waited) peer.id peer.away made
  framed made frame same goes =
      subst (Makes desk next (HasTurn desk waited) peer.id peer.away) (sym same)
      (record {
        own = refl;
        alike = refl;
        added = [];
        is = (goes, refl);
        stored = sym (append-nil (stored_of desk.profiles));
        waiting = sym (append-nil desk.queue.items);
        searching = tt;
        kept = are;
        stay = stay;
        same = refl;
      })

  -- that of its query
  pub works_frame : (made : Peer) (frame : Frame) →
      IsQueryFrame (site_at desk) (take search.before (stored_of desk.profiles)) search.aim
      (part (received_of peer.received) search.span) (frame_in frame) →
      made ≡ answered_by peer frame → Makes desk next (HasTurn desk waited) peer.id peer.away made
  works_frame made frame is same =
      let asked : AskedBy waited search.before search.aim (part (received_of peer.received) search.span) =
      record { span = search.span; verdict = search.verdict; query_is = refl; before_is = search.whole_is } in
      framed made frame same (steps.answers {due = pending.left} refl asked search.within is)

  -- or memory ran out
  pub works_memory : (made : Peer) → made ≡ answered_by peer frames.Memory → Makes desk next (HasTurn desk waited) peer.id peer.away made
  works_memory made same = framed made frames.Memory same (steps.gives_up {due = pending.left} refl)

  -- or the search goes on, and waits last where the queue has room
  module _ (new : Desk) (world : new.world ≡ desk.world) (profiles : new.profiles ≡ desk.profiles) (kept_is : new.kept ≡ kept)
      (labels : new.labels ≡ desk.labels) (later : Search)
      (job : IsJobOf (site_at desk) (take search.before (stored_of desk.profiles)) kept search.aim
      (part (received_of peer.received) search.span) later)
      (counts : pending.left ≡ suc later.left) where
    -- a desk at which only the queue changes besides
    desk_is : record desk { kept = kept; queue = new.queue; alloc = new.alloc } ≡ new
    desk_is = λ i. record new { world = (sym world) i; profiles = (sym profiles) i; kept = (sym kept_is) i; labels = (sym labels) i }

    searching : IsSearchAt new (waiting_by peer later)
    searching =
        subst (λ (d : Desk). IsSearchAt d (waiting_by peer later)) desk_is
        (record {
          before = search.before;
          aim = search.aim;
          span = search.span;
          verdict = search.verdict;
          whole_is = search.whole_is;
          within = search.within;
          job = job;
        })

    stored_same : stored_of new.profiles ≡ stored_of desk.profiles ++ []
    stored_same = ap stored_of profiles ∙ sym (append-nil (stored_of desk.profiles))

    stay_now : StayAwaited (world_of desk.world) desk.kept new.kept
    stay_now = subst (λ (k : KeptProfiles). StayAwaited (world_of desk.world) desk.kept k) (sym kept_is) stay

    pub works_more : (made : Peer) → Joins desk.queue.items new.queue.items peer later made →
        Makes desk new (HasTurn desk waited) peer.id peer.away made
    works_more made (last queue same) =
        subst (Makes desk new (HasTurn desk waited) peer.id peer.away) (sym same)
        (record {
          own = refl;
          alike = refl;
          added = [];
          is = (steps.more {due = later.left} (ap (λ (m : ℕ). Waits m) counts), refl);
          stored = stored_same;
          waiting = queue;
          searching = searching;
          kept = subst AreReadied desk_is are;
          stay = stay_now;
          same = ap service_at (sym desk_is);
        })
    works_more made (none queue same) =
        subst (Makes desk new (HasTurn desk waited) peer.id peer.away) (sym same)
        (record {
          own = refl;
          alike = refl;
          added = [];
          is = (steps.gives_up {due = pending.left} refl, refl);
          stored = stored_same;
          waiting = queue ∙ sym (append-nil desk.queue.items);
          searching = tt;
          kept = subst AreReadied desk_is are;
          stay = stay_now;
          same = ap service_at (sym desk_is);
        })

-- a list from which the first is taken and which stays the same has none
nothing_left : {A : Type 0} (xs ys : List A) → xs ≡ ys → ys ≡ drop 1 xs → xs ≡ []
nothing_left [] ys same rest = refl
nothing_left (x ∷ xs) ys same rest = absurd (omega (arith, ap length same, ap length rest, length-drop 1 (x ∷ xs)))

-- nothing changes where no search waits
pub works_idle : (room new : Room) → new.peers.items ≡ room.peers.items → new.desk.profiles ≡ room.desk.profiles →
    room.desk.queue.items ≡ new.desk.queue.items →
    new.desk.queue.items ≡ drop 1 room.desk.queue.items → Works (service_in room) (state_in room) (state_in new)
works_idle room new peers profiles same rest =
    subst (Works (service_in room) (state_in room)) (sym state)
    (steps.idle (nothing_left room.desk.queue.items new.desk.queue.items same rest))
  where
    state : state_in new ≡ state_in room
    state = λ i. record { stored = stored_of (profiles i); waiting = (sym same) i; known = known_at (entries_of (peers i)) }
