-- What a session is given by what is fixed for it.
use Rattle.std.proofs.Common.{◌≡◌, ◌≢◌, ◌⊎◌, ℕ, Bool, true, false, List, [], ◌++◌, length, Some, inl, inr, refl, sym, ◌∙◌, ap, subst, arith, append-nil}
use Rattle.hall.proofs.VerdictLemmas.{silent_by}
use Rattle.hall.specs.Parts.{AreReadied, IsSearchAt, IsSearchIn, Joins, Settles, answered_by, connection_of, frame_in, last, none, phase_in, service_at, site_at, waiting_by}
use Rattle.hall.specs.State.{Connection, Silent, Waits, waits_as, with_frame}
use Rattle.hall.specs.Steps.{Takes, memory_frame, whole_in}
use Rattle.hall.specs.Steps as steps
use Rattle.hall.specs.declared.desk.Desk.{Desk}
use Rattle.hall.specs.declared.peer.Frame.{Frame}
use Rattle.hall.specs.declared.peer.Frame.TheVariants as frames
use Rattle.hall.specs.declared.peer.Phase.{Phase as Kept}
use Rattle.hall.specs.declared.peer.Phase.TheVariants as phases
use Rattle.hall.specs.declared.peer.Peer.{Peer}
use Rattle.session_answers.specs.declared.kept.KeptProfiles.{KeptProfiles}
use Rattle.route_http.specs.declared.span.Span.{Span}
use Rattle.route_ready.specs.World.{world_of}
use Rattle.session_answers.proofs.CallerLemmas.{job_now, kept_more, verdict_unique}
use Rattle.session_answers.specs.Frames.{refusal_frame}
use Rattle.session_answers.specs.Jobs.{AreKept, IsBegun}
use Rattle.session_answers.specs.Kept.{StayAwaited}
use Rattle.session_answers.specs.Profiles.{given_of, stored_of, uploads_of}
use Rattle.session_answers.specs.Received.{received_of}
use Rattle.session_answers.specs.Rows.{IsEarlyFrame}
use Rattle.session_answers.specs.Searches.{turns_for}
use Rattle.session_answers.specs.Stored.{Stored, Uploaded, upload_of}
use Rattle.session_answers.specs.Verdicts.{IsVerdict, part}
use Rattle.route_engine.specs.declared.aim.Aim.{Aim}
use Rattle.session_answers.specs.declared.profiles.Profiles.{Profiles}
use Rattle.session_answers.specs.declared.refusal.Refusal.{Refusal}
use Rattle.session_answers.specs.declared.search.Search.{Search}
use Rattle.session_answers.specs.declared.verdict.Verdict.{Verdict}
use Rattle.session_answers.specs.declared.verdict.Verdict.TheVariants.{NoByte, Refused, Upload, Query}

-- ---- A session with a byte

-- where something else is fixed, a byte came
pub has_byte : (bytes : List ℕ) (ended : Bool) (verdict : Verdict) → IsVerdict bytes ended verdict → verdict ≢ NoByte →
    IsVerdict bytes ended NoByte → ⊥
has_byte bytes ended verdict is other silent = other (verdict_unique bytes ended verdict NoByte is silent)

-- where the peer didn't end, the session isn't one without a byte
pub goes_on : (bytes : List ℕ) (ended : Bool) → ended ≡ false → IsVerdict bytes ended NoByte → ⊥
goes_on bytes ended is silent =
    let clash : true ≡ false = sym (silent_by bytes ended silent).ends ∙ is in cc

-- ---- What is fixed, where nothing is stored and nothing waits

module _ (desk : Desk) (kept : KeptProfiles) (are : AreKept (world_of desk.world) (stored_of desk.profiles) kept)
    (stay : StayAwaited (world_of desk.world) desk.kept kept) (before c : Connection) (id : ℕ) (away : Bool) where
  -- a desk at which only the profiles that were made ready change
  abbrev next : Desk
  next = record desk { kept = kept }

  settles_stay : (made : Peer) → made.id ≡ id → made.away ≡ away → waits_as (phase_in made.phase) id ≡ [] → IsSearchAt next made →
      Takes (service_at desk) (stored_of desk.profiles) before c (connection_of made) [] → Settles desk next before c id away made
  settles_stay made own alike still searching takes = record {
    own = own;
    alike = alike;
    added = [];
    is = takes;
    stored = sym (append-nil (stored_of desk.profiles));
    waiting = sym (ap (λ (l : List ℕ). desk.queue.items ++ l) still ∙ append-nil desk.queue.items);
    searching = searching;
    kept = are;
    stay = stay;
    same = refl;
  }

  -- a frame
  pub settles_frame : (made base : Peer) (frame : Frame) → made ≡ answered_by base frame → base.id ≡ id → base.away ≡ away →
      Takes (service_at desk) (stored_of desk.profiles) before c (with_frame (connection_of base) (frame_in frame)) [] →
      Settles desk next before c id away made
  settles_frame made base frame same own alike takes =
      subst (Settles desk next before c id away) (sym same) (settles_stay (answered_by base frame) own alike refl tt takes)

  -- nothing at all
  pub settles_silent : (made base : Peer) → made ≡ record base { phase = phases.Silent } → base.id ≡ id → base.away ≡ away →
      Takes (service_at desk) (stored_of desk.profiles) before c (record (connection_of base) { phase = Silent }) [] →
      Settles desk next before c id away made
  settles_silent made base same own alike takes =
      subst (Settles desk next before c id away) (sym same) (settles_stay (record base { phase = phases.Silent }) own alike refl tt takes)

  -- nothing yet
  pub settles_undecided : (made : Peer) → made.phase ≡ phases.Reading → made.id ≡ id → made.away ≡ away →
      Takes (service_at desk) (stored_of desk.profiles) before c (connection_of made) [] → Settles desk next before c id away made
  settles_undecided made reads own alike takes =
      settles_stay made own alike (ap (λ (p : Kept). waits_as (phase_in p) id) reads)
      (subst (IsSearchIn (site_at desk) (stored_of desk.profiles) kept (received_of made.received) made.ended made.before) (sym reads) tt)
      takes

-- a session is answered by the frame of a refusal, or of want of memory
abbrev pub IsRefusedBy : Peer → Peer → Refusal → Type 0
IsRefusedBy peer made r =
    (frame : Frame) × (made ≡ answered_by peer frame) × ((frame_in frame ≡ refusal_frame r) ⊎ (frame_in frame ≡ memory_frame))

-- a refusal, or want of memory
pub settles_refused : (desk : Desk) (are : AreReadied desk) (before : Connection) (peer made : Peer) (r : Refusal) →
    IsVerdict (received_of peer.received) peer.ended (Refused r) → IsRefusedBy peer made r →
    Settles desk desk before (connection_of peer) peer.id peer.away made
settles_refused desk are before peer made r is answer =
    settles_frame desk desk.kept are (λ place overrides left k is. is) before (connection_of peer) peer.id peer.away made peer answer.0 answer.1 refl refl (by_frame answer.2)
  where
    by_frame : (frame_in answer.0 ≡ refusal_frame r) ⊎ (frame_in answer.0 ≡ memory_frame) →
        Takes (service_at desk) (stored_of desk.profiles) before (connection_of peer) (with_frame (connection_of peer) (frame_in answer.0))
        []
    by_frame (inl same) =
        subst (λ (f : List ℕ). Takes (service_at desk) (stored_of desk.profiles) before (connection_of peer)
        (with_frame (connection_of peer) f) []) (sym same) (steps.refused is)
    by_frame (inr same) =
        subst (λ (f : List ℕ). Takes (service_at desk) (stored_of desk.profiles) before (connection_of peer)
        (with_frame (connection_of peer) f) []) (sym same)
        (steps.gives_up (has_byte (received_of peer.received) peer.ended (Refused r) is (λ e. cc)) (inr (inl refl)))

-- ---- A query

module _ (desk : Desk) (kept : KeptProfiles) (are : AreKept (world_of desk.world) (stored_of desk.profiles) kept)
    (stay : StayAwaited (world_of desk.world) desk.kept kept) (before : Connection) (peer : Peer) (n : ℕ)
    (counts : n ≡ length (stored_of desk.profiles)) (aim : Aim) (span : Span)
    (is : IsVerdict (received_of peer.received) peer.ended (Query aim span)) where
  -- its request is whole now
  abbrev whole : Peer
  whole = record peer { before = Some n }

  whole_is : connection_of whole ≡ whole_in (stored_of desk.profiles) (connection_of peer)
  whole_is = ap (λ (m : ℕ). record (connection_of peer) { before = Some m }) counts

  -- the answer before any search
  pub settles_early : (made : Peer) (frame : Frame) (query : List ℕ) → made ≡ answered_by whole frame →
      query ≡ part (received_of peer.received) span →
      IsEarlyFrame (site_at desk) (stored_of desk.profiles) aim query (frame_in frame) →
      Settles desk (record desk { kept = kept }) before (connection_of peer) peer.id peer.away made
  settles_early made frame query same same_query answers =
      settles_frame desk kept are stay before (connection_of peer) peer.id peer.away made whole frame same refl refl
      (subst (λ (d : Connection). Takes (service_at desk) (stored_of desk.profiles) before (connection_of peer)
      (with_frame d (frame_in frame)) []) (sym whole_is)
      (steps.early is (subst (λ (q : List ℕ). IsEarlyFrame (site_at desk) (stored_of desk.profiles) aim q (frame_in frame)) same_query
      answers)))

  -- a search that waits, or want of memory
  module _ (new : Desk) (world : new.world ≡ desk.world) (profiles : new.profiles ≡ desk.profiles) (labels : new.labels ≡ desk.labels)
      (readied : AreReadied new) (awaited : StayAwaited (world_of desk.world) desk.kept new.kept) (pending : Search)
      (begun : IsBegun (site_at desk) (stored_of desk.profiles) new.kept aim (part (received_of peer.received) span) pending) where
    stored_same : stored_of new.profiles ≡ stored_of desk.profiles ++ []
    stored_same = ap stored_of profiles ∙ sym (append-nil (stored_of desk.profiles))

    same_service : service_at new ≡ service_at desk
    same_service = λ i. service_at (record desk { world = world i; profiles = profiles i; labels = labels i })

    searching : IsSearchAt new (waiting_by whole pending)
    searching =
        subst (λ (d : Desk). IsSearchAt d (waiting_by whole pending)) desk_is
        (record {
          before = length (stored_of desk.profiles);
          aim = aim;
          span = span;
          verdict = is;
          whole_is = ap (λ (m : ℕ). Some m) counts;
          within = omega arith;
          job = job_now (site_at desk) aim (part (received_of peer.received) span) pending new.kept (stored_of desk.profiles) begun.job;
        })
      where
        desk_is : record desk { queue = new.queue; kept = new.kept; alloc = new.alloc } ≡ new
        desk_is = λ i. record new { world = (sym world) i; profiles = (sym profiles) i; labels = (sym labels) i }

    pub settles_search : (made : Peer) → Joins desk.queue.items new.queue.items whole pending made →
        Settles desk new before (connection_of peer) peer.id peer.away made
    settles_search made (last queue same) =
        subst (Settles desk new before (connection_of peer) peer.id peer.away) (sym same)
        (record {
          own = refl;
          alike = refl;
          added = [];
          is =
              subst (λ (m : ℕ). Takes (service_at desk) (stored_of desk.profiles) before (connection_of peer)
              (record (connection_of whole) { phase = Waits m }) []) (sym begun.fresh)
              (subst (λ (d : Connection). Takes (service_at desk) (stored_of desk.profiles) before (connection_of peer)
              (record d { phase = Waits (turns_for (world_of desk.world) aim begun.job.asked) }) []) (sym whole_is)
              (steps.waits is begun.job.asks));
          stored = stored_same;
          waiting = queue;
          searching = searching;
          kept = readied;
          stay = awaited;
          same = same_service;
        })
    settles_search made (none queue same) =
        subst (Settles desk new before (connection_of peer) peer.id peer.away) (sym same)
        (record {
          own = refl;
          alike = refl;
          added = [];
          is = steps.gives_up {kept = connection_of whole} (has_byte (received_of peer.received) peer.ended (Query aim span) is (λ e. cc))
              (inr (inr whole_is));
          stored = stored_same;
          waiting = queue ∙ sym (append-nil desk.queue.items);
          searching = tt;
          kept = readied;
          stay = awaited;
          same = same_service;
        })

-- ---- An upload

module _ (desk : Desk) (profiles : Profiles) (before : Connection) (peer : Peer) (span : Span) (is :
    IsVerdict (received_of peer.received) peer.ended (Upload span))
    (are : AreReadied desk) (given : given_of profiles ≡ given_of desk.profiles) where
  abbrev after : Desk
  after = record desk { profiles = profiles }

  abbrev u : Uploaded
  u = upload_of (world_of desk.world).table (uploads_of desk.profiles) (part (received_of peer.received) span)

  -- more profiles are stored, and the session has a frame
  grown : (made base : Peer) (frame : Frame) (more : List Stored) → made ≡ answered_by base frame → base.id ≡ peer.id →
      base.away ≡ peer.away →
      stored_of profiles ≡ stored_of desk.profiles ++ more →
      Takes (service_at desk) (stored_of desk.profiles) before (connection_of peer) (with_frame (connection_of base) (frame_in frame))
      more →
      Settles desk after before (connection_of peer) peer.id peer.away made
  grown made base frame more same own alike stored takes =
      subst (Settles desk after before (connection_of peer) peer.id peer.away) (sym same)
      (record {
        own = own;
        alike = alike;
        added = more;
        is = takes;
        stored = stored;
        waiting = sym (append-nil desk.queue.items);
        searching = tt;
        kept = subst (λ (l : List Stored). AreKept (world_of desk.world) l desk.kept) (sym stored)
            (kept_more (world_of desk.world) (stored_of desk.profiles) more desk.kept are);
        stay = λ place overrides left k is. is;
        same = λ i. record { world = world_of desk.world; given = given i; labels = desk.labels };
      })

  -- it is answered
  pub settles_upload : (made : Peer) (n : ℕ) (frame : Frame) (seen : Uploaded) → seen ≡ u → frame_in frame ≡ seen.frame →
      n ≡ length (stored_of desk.profiles) →
      stored_of profiles ≡ stored_of desk.profiles ++ seen.added → made ≡ answered_by (record peer { before = Some n }) frame →
      Settles desk after before (connection_of peer) peer.id peer.away made
  settles_upload made n frame seen same_upload frame_is counts stored same =
      let c = connection_of peer in
      let now : with_frame (record c { before = Some n }) (frame_in frame) ≡ with_frame (whole_in (stored_of desk.profiles) c) u.frame =
      ap (λ (m : ℕ). with_frame (record c { before = Some m }) (frame_in frame)) counts
      ∙ ap (with_frame (whole_in (stored_of desk.profiles) c)) (frame_is ∙ ap (λ (x : Uploaded). x.frame) same_upload) in
      grown made (record peer { before = Some n }) frame u.added same refl refl (stored
      ∙ ap (λ (x : Uploaded). stored_of desk.profiles ++ x.added) same_upload)
      (subst (λ (d : Connection). Takes (service_at desk) (stored_of desk.profiles) before (connection_of peer) d u.added) (sym now)
      (steps.upload is))

  -- or memory ran out
  pub settles_no_upload : (made : Peer) → stored_of profiles ≡ stored_of desk.profiles → made ≡ answered_by peer frames.Memory →
      Settles desk after before (connection_of peer) peer.id peer.away made
  settles_no_upload made stored same =
      grown made peer frames.Memory [] same refl refl (stored ∙ sym (append-nil (stored_of desk.profiles)))
      (steps.gives_up (has_byte (received_of peer.received) peer.ended (Upload span) is (λ e. cc)) (inr (inl refl)))
