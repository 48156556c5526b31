-- All that is noted of a command, as one text. This project's own rule.
use Rattle.std.specs.Prelude.{ℕ, ◌≡◌, Bool, true, false, List, [], ◌∷◌, ◌++◌, Result, Ok, Err, take}
use Rattle.command_words.specs.Command.{address_of}
use Rattle.command_words.specs.Given.{Named}
use Rattle.command_words.specs.declared.command.Command.{Command}
use Rattle.command_words.specs.declared.command.Command as Form
use Rattle.edge_io.specs.Sink.{SinkSeen}
use Rattle.overpass_graph.specs.Maps.{MapValue}
use Rattle.route_ready.specs.declared.error.RouteError.{RouteError}
use Rattle.route_run.specs.Offer.{serve_files}
use Rattle.route_run.specs.Outcome.{wants_notes}
use Rattle.route_run.specs.Readying.{most_ready, ready_note}
use Rattle.route_run.specs.Serving.{listen_note}
use Rattle.run_answers.specs.Route.{route_files}
use Rattle.run_files.specs.NoteLines.{certificate_note, map_note, profile_note, read_notes, table_note, tile_note}
use Rattle.run_files.specs.Notes.{HasFront, NotesSeen}
use Rattle.run_files.specs.World.{WorldFiles}

-- ---- Texts

-- a text is this one
abbrev pub Is : List ℕ → List ℕ → Type 0
Is line text = text ≡ line

-- a text is one of a first kind, and then one of a second
pub record Joins (First Second : List ℕ → Type 0) (text : List ℕ) : Type 0 where
  pub first : List ℕ
  pub second : List ℕ
  pub is_first : First first
  pub is_second : Second second
  pub parts : text ≡ first ++ second

-- a note on each of these files
abbrev pub each_note : (Named → List ℕ) → List Named → List ℕ
each_note note [] = []
each_note note (file ∷ files) = note file ++ each_note note files

-- the notes on a map's file: its parts, by how many bytes were read, and then its map
pub record AreMapNotes (file : Named) (text : List ℕ) : Type 0 where
  pub read : ℕ
  pub map : MapValue
  pub is : text ≡ read_notes file read ++ map_note file map

-- the notes on the files of a world, in the order in which they are taken in
abbrev pub AreWorldNotes : WorldFiles → List ℕ → Type 0
AreWorldNotes files =
    Joins (Is (table_note files.lookups)) (Joins (Is (each_note profile_note files.profiles))
    (Joins (AreMapNotes files.map) (Is (each_note tile_note files.tiles))))

-- the note on a profile that was to be made ready, whatever came of it
pub record IsReadyNote (file : Named) (text : List ℕ) : Type 0 where
  pub result : Result (Unit {0}) RouteError
  pub is : text ≡ ready_note file result

-- so on each of these
abbrev pub AreReadyNotes : List Named → List ℕ → Type 0
AreReadyNotes [] = Is []
AreReadyNotes (file ∷ files) = Joins (IsReadyNote file) (AreReadyNotes files)

-- ---- Commands

-- all notes of a command
abbrev pub AreNotesOf : Command → List ℕ → Type 0
AreNotesOf (Form.TheVariants.Route command) = AreWorldNotes (route_files command)
AreNotesOf (Form.TheVariants.Certify command) = AreWorldNotes (route_files command.route)
AreNotesOf (Form.TheVariants.Check command) =
    Joins (AreWorldNotes (route_files command.route)) (Is (certificate_note command.certificate))
AreNotesOf (Form.TheVariants.Table command) = AreWorldNotes (route_files command)
AreNotesOf (Form.TheVariants.Within command) = AreWorldNotes (route_files command.route)
AreNotesOf (Form.TheVariants.Serve command) =
    Joins (Joins (AreWorldNotes (serve_files command)) (AreReadyNotes (take most_ready command.profiles)))
    (Is (listen_note (address_of command.listen)))
AreNotesOf command = Is []

-- a front of a text of this kind was written, which may be the whole or nothing
pub record WritesFront (Texts : List ℕ → Type 0) (old new : SinkSeen) : Type 0 where
  pub text : List ℕ
  pub is : Texts text
  pub front : HasFront text old new

-- where notes are wanted, a front of these is written, and else nothing
abbrev pub WritesIf : Bool → (List ℕ → Type 0) → SinkSeen → SinkSeen → Type 0
WritesIf true Texts old new = WritesFront Texts old new
WritesIf false Texts old new = new ≡ old

-- what is written to the notes: a front of those of the command, where it wants them, and else nothing; of words
-- that are no command nothing is
abbrev pub WritesNotes : Result Command ℕ → NotesSeen → NotesSeen → Type 0
WritesNotes (Ok command) old new = WritesIf (wants_notes command) (AreNotesOf command) old.sink new.sink
WritesNotes (Err word) old new = new.sink ≡ old.sink
