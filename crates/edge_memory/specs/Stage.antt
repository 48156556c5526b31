-- This project's own rule: a script that is played, and what each act leaves of it.
use Rattle.std.specs.Prelude.{◌≡◌, ◌==◌, ◌&&◌, ◌||◌, not, ℕ, Bool, List, [], ◌∷◌, ◌++◌}
use Rattle.edge_io.specs.Acts.{Act, Gave, Took, hangs_up}
use Rattle.edge_io.specs.Hub.{FitsBuffer, IsFreshAmong, TellsEnd, bytes_given}
use Rattle.edge_memory.specs.MemoryHub.{buffer_after}
use Rattle.edge_memory.specs.Script.{Scene, next_scene}
use Rattle.edge_io.specs.declared.event.Event.{Event}
use Rattle.edge_io.specs.declared.event.Event.TheVariants.{Opened, Bytes, Ended, Lost, Quiet, Over}
use Rattle.edge_memory.specs.declared.script.Script.{Script}

-- a script that is played: its acts, the entries that are left, and the most that it keeps
pub record Stage : Type 0 where
  pub acts : List Act
  pub script : List Script
  pub room : ℕ

-- a script of which nothing was played
abbrev pub fresh_stage : List Script → ℕ → Stage
fresh_stage script room = record { acts = []; script = script; room = room }

-- what it gives next, no more than so many bytes
abbrev pub scene_next : Stage → ℕ → Scene
scene_next s most = next_scene s.acts most s.script

-- the script after it gave this
abbrev pub after_play : Stage → Scene → Stage
after_play s scene = record s { acts = s.acts ++ (Gave scene.event scene.bytes ∷ []); script = scene.left }

-- the script gave its next event, which put its bytes at the front of a buffer that they fit
pub record Plays (old new : Stage) (most : ℕ) (before after : List ℕ) (event : Event) : Type 0 where
  pub is : event ≡ (scene_next old most).event
  pub buffer : after ≡ buffer_after (scene_next old most).bytes before
  pub stage : new ≡ after_play old (scene_next old most)
  pub fits : FitsBuffer after event
  pub fresh : IsFreshAmong old.acts event
  pub only : TellsEnd (hangs_up old.acts) event
  pub given : bytes_given event after ≡ (scene_next old most).bytes

-- the script after a send took these bytes
abbrev pub after_take : Stage → ℕ → List ℕ → Stage
after_take s id bytes = record s { acts = s.acts ++ (Took id bytes ∷ []) }

-- the script after these marks
abbrev pub after_mark : Stage → List Act → Stage
after_mark s marks = record s { acts = s.acts ++ marks }

-- a connection is held after an event, where it was or wasn't before
abbrev pub live_after : Event → ℕ → Bool → Bool
live_after (Opened at) id live = (at == id) || live
live_after (Bytes at n) id live = live
live_after (Ended at) id live = live
live_after (Lost at) id live = not (at == id) && live
live_after Quiet id live = live
live_after Over id live = live

-- how many connections an event opens
abbrev pub opened_by : Event → ℕ
opened_by (Opened at) = 1
opened_by (Bytes at n) = 0
opened_by (Ended at) = 0
opened_by (Lost at) = 0
opened_by Quiet = 0
opened_by Over = 0

-- what goes with a script that is played: the lists of connections that are held and that were closed, and
-- room
pub record Hold : Type 0 where
  pub acts : List Act
  pub left : List Script
  pub live : List ℕ
  pub closed : List ℕ
  pub room : ℕ
  pub kept : ℕ
  pub notes : ℕ
  pub bytes : ℕ
