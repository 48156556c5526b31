-- What each act leaves of the fields of a script that is played.
use Rattle.std.proofs.Common.{◌≡◌, ◌==◌, ◌<◌, ◌≤◌, ◌+◌, not, ℕ, Bool, true, false, List, [], ◌∷◌, ◌++◌, length, drop, Vec, vec_len, vec_capacity, refl, sym, ◌∙◌, ap, subst, arith}
use Rattle.std.specs.List.{filter}
use Rattle.std.specs.declared.alloc.Global.{Global}
use Rattle.edge_io.specs.Acts.{Act, Listens, Gave, Took, Broke, Closed, told, after_act, hangs_up, hangs_up_by}
use Rattle.edge_memory.specs.Ids.{has}
use Rattle.edge_memory.specs.MemoryHub.{room_used}
use Rattle.edge_memory.specs.Place.{left_from, IsShot, event_bytes}
use Rattle.edge_memory.specs.Script.{Scene, front_scene, told_as, told_scene, after_waits, IsPlayable, opens}
use Rattle.edge_memory.specs.Stage.{Stage, live_after, opened_by, Plays, after_play}
use Rattle.edge_memory.specs.StageView.{stage_of, hold_of, IsSet}
use Rattle.edge_memory.specs.Tape.{Tape, Notes, noted_bytes, bytes_at}
use Rattle.edge_memory.specs.declared.cue.Shot.{Shot}
use Rattle.edge_io.specs.declared.event.Event.{Event}
use Rattle.edge_memory.specs.declared.script.Script.{Script}
use Rattle.edge_memory.specs.declared.stage.Stage.TheInside.{Inside}
use Rattle.edge_memory.proofs.HeldLemmas.{held-step, Steps-listens, Steps-took, Steps-broke, Steps-closed, length-shorter, live-event, closed-event}
use Rattle.edge_memory.proofs.SceneLemmas.{waits-same, opens-waits, length-waits, playable-waits, playable-left, front-opens, front-few, come-scene, fresh-scene, fits-event, given-event}
use Rattle.edge_memory.proofs.PlaceLemmas.{noted}
use Rattle.edge_memory.proofs.ToldLemmas.{noted-told, opened_by-told, opened-told, holds-told, given-told, only-told}
use Rattle.edge_io.proofs.CallerLemmas.{hangs_up-one}
use Rattle.edge_io.specs.Hub.{FitsBuffer, IsFreshAmong, TellsEnd}

-- whether an end is a loss after one more act
hangs-more : (old tape : Tape) (bytes : ℕ) (act : Act) → Notes old tape bytes act → hangs_up tape.acts ≡ hangs_up_by act (hangs_up old.acts)
hangs-more old tape bytes act noted = ap hangs_up noted.acts ∙ hangs_up-one old.acts act

-- the fields after an opening
pub Set-listens : (s : Inside) (self : Stage) (tape : Tape) (address : List ℕ) (hangup : Bool) → IsSet s → stage_of s ≡ self →
    room_used self.acts + length address < self.room → Notes s.tape tape (length address) (Listens address hangup)
    → IsSet (record s { tape = tape; kept = s.kept + (length address + 1); hangup = hangup })
Set-listens s self tape address hangup set is room noted = record {
  held = held-step (hold_of s) _ (Listens address hangup) set.held
      (Steps-listens (hold_of s) _ address hangup set.held
      (omega (arith, set.held.kept_is, ap (λ (t : Stage). room_used t.acts) is, ap (λ (t : Stage). t.room) is, room)) noted.acts left
      refl refl refl refl noted.room noted.place);
  hangs = sym (hangs-more s.tape tape (length address) (Listens address hangup) noted);
  playable = rw noted.script set.playable;
  is_place = rw noted.script set.is_place;
  live_room = rw noted.script set.live_room;
  closed_room = rw noted.script set.closed_room;
}
  where
    left : left_from tape.script s.place s.used ≡ left_from s.tape.script s.place s.used
    left = ap (λ (script : List Script). left_from script s.place s.used) noted.script

-- the fields after a send that took bytes
pub Set-took : (s : Inside) (self : Stage) (tape : Tape) (id : ℕ) (bytes : List ℕ) → IsSet s → stage_of s ≡ self →
    room_used self.acts + length bytes < self.room → Notes s.tape tape (length bytes) (Took id bytes)
    → IsSet (record s { tape = tape; kept = s.kept + (length bytes + 1) })
Set-took s self tape id bytes set is room noted = record {
  held = held-step (hold_of s) _ (Took id bytes) set.held
      (Steps-took (hold_of s) _ id bytes set.held
      (omega (arith, set.held.kept_is, ap (λ (t : Stage). room_used t.acts) is, ap (λ (t : Stage). t.room) is, room)) noted.acts left
      refl refl refl refl noted.room noted.place);
  hangs = set.hangs ∙ sym (hangs-more s.tape tape (length bytes) (Took id bytes) noted);
  playable = rw noted.script set.playable;
  is_place = rw noted.script set.is_place;
  live_room = rw noted.script set.live_room;
  closed_room = rw noted.script set.closed_room;
}
  where
    left : left_from tape.script s.place s.used ≡ left_from s.tape.script s.place s.used
    left = ap (λ (script : List Script). left_from script s.place s.used) noted.script

-- the fields after a send that failed
pub Set-broke : (s : Inside) (tape : Tape) (id : ℕ) (live : Vec ℕ Global) → IsSet s → has id s.live.items ≡ true →
    Notes s.tape tape 0 (Broke id) → live.items ≡ filter (λ x. not (x == id)) s.live.items → vec_capacity live ≡ vec_capacity s.live
    → vec_len live ≡ length live.items → vec_len s.live ≡ length s.live.items
    → IsSet (record s { tape = tape; live = live })
Set-broke s tape id live set held noted out capacity len len_before = record {
  held = held-step (hold_of s) _ (Broke id) set.held
      (Steps-broke (hold_of s) _ id set.held held noted.acts left out refl refl refl noted.room (omega (arith, noted.place)));
  hangs = set.hangs ∙ sym (hangs-more s.tape tape 0 (Broke id) noted);
  playable = rw noted.script set.playable;
  is_place = rw noted.script set.is_place;
  live_room = omega (arith, ap length left, set.live_room, fewer, capacity);
  closed_room = omega (arith, ap length left, set.closed_room, fewer);
}
  where
    left : left_from tape.script s.place s.used ≡ left_from s.tape.script s.place s.used
    left = ap (λ (script : List Script). left_from script s.place s.used) noted.script

    fewer : vec_len live + 1 ≤ vec_len s.live
    fewer = omega (arith, len, len_before, ap length out, length-shorter id s.live.items held)

-- the fields after a close
pub Set-closed : (s : Inside) (tape : Tape) (id : ℕ) (live closed : Vec ℕ Global) → IsSet s → has id s.live.items ≡ true →
    Notes s.tape tape 0 (Closed id) → live.items ≡ filter (λ x. not (x == id)) s.live.items → vec_capacity live ≡ vec_capacity s.live
    → vec_len live ≡ length live.items → vec_len s.live ≡ length s.live.items → closed.items ≡ s.closed.items ++ (id ∷ []) →
    vec_len closed ≡ vec_len s.closed + 1 → vec_capacity closed ≡ vec_capacity s.closed
    → IsSet (record s { tape = tape; live = live; closed = closed })
Set-closed s tape id live closed set held noted out capacity len len_before pushed closed_len closed_capacity = record {
  held = held-step (hold_of s) _ (Closed id) set.held
      (Steps-closed (hold_of s) _ id set.held held noted.acts left out pushed refl refl noted.room (omega (arith, noted.place)));
  hangs = set.hangs ∙ sym (hangs-more s.tape tape 0 (Closed id) noted);
  playable = rw noted.script set.playable;
  is_place = rw noted.script set.is_place;
  live_room = omega (arith, ap length left, set.live_room, fewer, capacity);
  closed_room = omega (arith, ap length left, set.closed_room, fewer, closed_len, closed_capacity);
}
  where
    left : left_from tape.script s.place s.used ≡ left_from s.tape.script s.place s.used
    left = ap (λ (script : List Script). left_from script s.place s.used) noted.script

    fewer : vec_len live + 1 ≤ vec_len s.live
    fewer = omega (arith, len, len_before, ap length out, length-shorter id s.live.items held)

-- a script that is played, of its parts
abbrev pub stage_with : List Act → List Script → ℕ → Stage
stage_with acts script room = record { acts = acts; script = script; room = room }

-- the facts of one play: the place behind the waits, the shot there, its note, and the list of held connections
pub record Played (s : Inside) (tape : Tape) (live : Vec ℕ Global) (place used most : ℕ) (shot : Shot) : Type 0 where
  pub behind : left_from s.tape.script place used ≡ after_waits (λ id. has id s.closed.items) (left_from s.tape.script s.place s.used)
  pub shot_is : IsShot s.tape.script place used most shot
  pub noted :
      Notes s.tape tape 0 (Gave (told_as s.hangup shot.event) (noted_bytes s.tape.script (told_as s.hangup shot.event) place used))
  pub follows : (id : ℕ) → has id live.items ≡ live_after (told_as s.hangup shot.event) id (has id s.live.items)
  pub few : vec_len live ≤ vec_len s.live + opened_by (told_as s.hangup shot.event)
  pub capacity : vec_capacity live ≡ vec_capacity s.live

module _ (s : Inside) (self : Stage) (tape : Tape) (live : Vec ℕ Global) (place used most : ℕ) (shot : Shot) (set : IsSet s) (is :
    stage_of s ≡ self) (played : Played s tape live place used most shot) where
  -- the entries that were left, and those behind the waits
  abbrev pub entries : List Script
  entries = left_from s.tape.script s.place s.used

  abbrev pub behind_them : List Script
  behind_them = after_waits (λ id. (told id s.tape.acts).closed) entries

  -- the place behind the waits is where the acts say
  pub is_behind : left_from s.tape.script place used ≡ behind_them
  is_behind = played.behind ∙ waits-same (λ id. has id s.closed.items) (λ id. (told id s.tape.acts).closed) entries
      (λ id. sym (set.held.are_closed id))

  -- the event as it is told, and its bytes
  abbrev pub event : Event
  event = told_as s.hangup shot.event

  abbrev pub given : List ℕ
  given = noted_bytes s.tape.script event place used

  -- the shot is the scene behind the waits
  pub is_scene : front_scene most behind_them ≡ record {
    event = shot.event;
    bytes = noted_bytes s.tape.script shot.event place used;
    left = left_from s.tape.script shot.place shot.used;
  }
  is_scene = ap (front_scene most) (sym is_behind) ∙ played.shot_is.scene

  -- what is left then
  left_is : (front_scene most behind_them).left ≡ left_from s.tape.script shot.place shot.used
  left_is = ap (λ (x : Scene). x.left) is_scene

  pub event_is : (front_scene most behind_them).event ≡ shot.event
  event_is = ap (λ (x : Scene). x.event) is_scene

  playable_behind : IsPlayable behind_them
  playable_behind = playable-waits (λ id. (told id s.tape.acts).closed) entries
      (playable-left s.tape.script s.place s.used set.playable set.is_place)

  few_left : length (left_from s.tape.script shot.place shot.used) + opened_by shot.event ≤ length entries
  few_left = omega (
    arith,
    ap length left_is,
    ap opened_by event_is,
    front-few most behind_them,
    length-waits (λ id. (told id s.tape.acts).closed) entries,
  )

  left_tape : left_from tape.script shot.place shot.used ≡ left_from s.tape.script shot.place shot.used
  left_tape = ap (λ (script : List Script). left_from script shot.place shot.used) played.noted.script

  come : (id : ℕ) → opens id (left_from tape.script shot.place shot.used) ≡ true →
      (after_act id (told id s.tape.acts) (Gave event given)).opened ≡ false
  come id comes =
      let left_opens : opens id (front_scene most behind_them).left ≡ true = ap (opens id) (left_is ∙ sym left_tape) ∙ comes in
      let before : opens id entries ≡ true = sym (opens-waits (λ at. (told at s.tape.acts).closed) id entries)
      ∙ front-opens id most behind_them left_opens in
      opened-told id s.hangup shot.event given (told id s.tape.acts)
      ∙ ap (λ (e : Event). (after_act id (told id s.tape.acts) (Gave e given)).opened) (sym event_is)
      ∙ come-scene id most behind_them given (told id s.tape.acts) playable_behind left_opens
      (set.held.to_come id before)

  -- the fields after a play
  pub Set-played : room_used self.acts < self.room → vec_len live ≡ length live.items → vec_len s.live ≡ length s.live.items →
      IsSet (record s { tape = tape; live = live; kept = s.kept + 1; place = shot.place; used = shot.used })
  Set-played room len len_before = record {
    held = held-step (hold_of s) _ (Gave event given) set.held (record {
      acts_are = played.noted.acts;
      room_is = refl;
      kept_more = refl;
      fits = omega (arith, set.held.kept_is, ap (λ (t : Stage). room_used t.acts) is, ap (λ (t : Stage). t.room) is, room);
      few = omega (arith, ap length left_tape, few_left, played.few, fewer, len, len_before);
      notes_less = played.noted.room;
      bytes_less = omega (arith, played.noted.place);
      live_now = λ id. live-event id event given (told id s.tape.acts) ∙ ap (live_after event id) (set.held.are_live id)
          ∙ sym (played.follows id);
      closed_now = λ id. closed-event id event given (told id s.tape.acts) ∙ set.held.are_closed id;
      come_now = come;
    });
    hangs = set.hangs ∙ sym (hangs-more s.tape tape 0 (Gave event given) played.noted);
    playable = rw played.noted.script set.playable;
    is_place = rw played.noted.script played.shot_is.is_place;
    live_room = omega (arith, ap length left_tape, few_left, played.few, fewer, played.capacity, set.live_room);
    closed_room = omega (arith, ap length left_tape, few_left, played.few, fewer, set.closed_room);
  }
    where
      fewer : opened_by event ≡ opened_by shot.event
      fewer = opened_by-told s.hangup shot.event

  -- what was played
  pub Plays-played : (buffer after bytes : List ℕ) → most ≤ length buffer → bytes ≡ given →
      after ≡ bytes ++ drop (length bytes) buffer
      → Plays self (stage_of (record s { tape = tape; live = live; kept = s.kept + 1; place = shot.place; used = shot.used })) most buffer
      after event
  Plays-played buffer after bytes room bytes_are filled =
      subst (λ (old : Stage). Plays old
      (stage_of (record s { tape = tape; live = live; kept = s.kept + 1; place = shot.place; used = shot.used })) most buffer after
      event) is
      (record {
        is = told_is;
        buffer = filled ∙ ap (λ (xs : List ℕ). xs ++ drop (length xs) buffer) (bytes_are ∙ sym given_is);
        stage = stage_is;
        fits = holds-told (FitsBuffer after) s.hangup shot.event (λ id holds. tt)
            (fits-event shot.event rest buffer after most played.shot_is.bytes played.shot_is.below room own_filled);
        fresh = holds-told (IsFreshAmong s.tape.acts) s.hangup shot.event (λ id holds. tt)
            (subst (λ (e : Event). IsFreshAmong s.tape.acts e) event_is
            (fresh-scene most behind_them s.tape.acts
            (λ id opened. set.held.to_come id (sym (opens-waits (λ at. (told at s.tape.acts).closed) id entries) ∙ opened))));
        only = subst (λ (h : Bool). TellsEnd h event) set.hangs (only-told s.hangup shot.event);
        given = given-told s.hangup shot.event after
            ∙ given-event shot.event rest buffer after played.shot_is.bytes own_filled ∙ sym (noted s.tape.script shot.event place used)
            ∙ sym bytes_is;
      })
    where
      rest : List ℕ
      rest = drop used (bytes_at s.tape.script place)

      bytes_is : (front_scene most behind_them).bytes ≡ noted_bytes s.tape.script shot.event place used
      bytes_is = ap (λ (x : Scene). x.bytes) is_scene

      given_is : (front_scene most behind_them).bytes ≡ given
      given_is = bytes_is ∙ sym (noted-told s.tape.script s.hangup shot.event place used)

      told_is : event ≡ told_as (hangs_up s.tape.acts) (front_scene most behind_them).event
      told_is = ap (λ (h : Bool). told_as h shot.event) set.hangs ∙ ap (told_as (hangs_up s.tape.acts)) (sym event_is)

      own_filled : after ≡ event_bytes shot.event (drop used (bytes_at s.tape.script place)) ++
          drop (length (event_bytes shot.event (drop used (bytes_at s.tape.script place)))) buffer
      own_filled = filled ∙ ap (λ (xs : List ℕ). xs ++ drop (length xs) buffer) (bytes_are ∙ noted-told s.tape.script s.hangup shot.event place used
          ∙ noted s.tape.script shot.event place used)

      stage_is : stage_of (record s { tape = tape; live = live; kept = s.kept + 1; place = shot.place; used = shot.used }) ≡
          after_play (stage_of s) (told_scene (hangs_up s.tape.acts) (front_scene most behind_them))
      stage_is =
          let acts : tape.acts ≡ s.tape.acts ++
          (Gave (told_as (hangs_up s.tape.acts) (front_scene most behind_them).event) (front_scene most behind_them).bytes ∷ []) =
          played.noted.acts ∙ ap (λ (e : Event). s.tape.acts ++ (Gave e given ∷ [])) told_is
          ∙ ap (λ (bytes : List ℕ). s.tape.acts ++
          (Gave (told_as (hangs_up s.tape.acts) (front_scene most behind_them).event) bytes ∷ [])) (sym given_is) in
          let left : left_from tape.script shot.place shot.used ≡ (front_scene most behind_them).left = left_tape ∙ sym left_is in
          ap (λ (a : List Act). stage_with a (left_from tape.script shot.place shot.used) s.room) acts
          ∙ ap (λ (l : List Script). stage_with (s.tape.acts ++
          (Gave (told_as (hangs_up s.tape.acts) (front_scene most behind_them).event) (front_scene most behind_them).bytes ∷ [])) l s.room)
          left
