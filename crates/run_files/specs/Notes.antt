-- Where the program notes what it does, and stages that note. This project's own rule.
use Rattle.std.specs.Prelude.{ℕ, ◌≡◌, ◌&&◌, Bool, true, false, List, ◌++◌, Ok, Err}
use Rattle.std.specs.Io.KnownBytes.{Appends}
use Rattle.edge_io.specs.Files.{FilesSeen}
use Rattle.edge_io.specs.Sink.{SinkSeen}
use Rattle.run_files.specs.Chain.{Stage, StageOver}

-- what is seen of where notes go: what the sink there shows, and whether notes are still written
pub record NotesSeen : Type 0 where
  pub sink : SinkSeen
  pub is_on : Bool

-- the same, where notes are written on only if they are wanted
abbrev pub heard : Bool → NotesSeen → NotesSeen
heard wanted notes = record { sink = notes.sink; is_on = notes.is_on && wanted }

-- the sink holds a front of a text behind its old bytes, where it tells them
pub record HasFront (text : List ℕ) (old new : SinkSeen) : Type 0 where
  pub front : List ℕ
  pub rest : List ℕ
  pub parts : text ≡ front ++ rest
  pub held : Appends old.held new.held front

-- a text was noted: it was written whole; or a front of it was, which may be nothing, and from then on no note is
-- written; or none was written any more, and nothing happened
pub data IsNoted (text : List ℕ) (old new : NotesSeen) : Type 0 where
  whole :
      old.is_on ≡ true → new.is_on ≡ true → Appends old.sink.held new.sink.held text → IsNoted text old new
  broken : old.is_on ≡ true → new.is_on ≡ false → HasFront text old.sink new.sink → IsNoted text old new
  silent : old.is_on ≡ false → new ≡ old → IsNoted text old new

-- ---- Stages

-- what a stage that notes goes over: the files, and where notes go
pub record Inputs : Type 0 where
  pub files : FilesSeen
  pub notes : NotesSeen

-- files, and where notes go
abbrev pub inputs : FilesSeen → NotesSeen → Inputs
inputs files notes = record { files = files; notes = notes }

-- a stage over files and notes
abbrev pub NotedStage : Type 0 → Type 1
NotedStage A = StageOver Inputs A

-- a stage of files that notes nothing
abbrev pub Unnoted : {A : Type 0} → Stage A → NotedStage A
Unnoted stage old new result = stage old.files new.files result × (new.notes ≡ old.notes)

-- a stage of files, and then the note of its value; of a refusal nothing is noted
abbrev pub Noting : {A : Type 0} → Stage A → (A → List ℕ) → NotedStage A
Noting stage note old new (Ok a) = stage old.files new.files (Ok a) × IsNoted (note a) old.notes new.notes
Noting stage note old new (Err status) = stage old.files new.files (Err status) × (new.notes ≡ old.notes)

-- ---- For the parts alone

-- a text was written whole, or only a front of it
abbrev pub IsWritten : (is_whole : Bool) (text : List ℕ) (old new : SinkSeen) → Type 0
IsWritten true text old new = Appends old.held new.held text
IsWritten false text old new = HasFront text old new
