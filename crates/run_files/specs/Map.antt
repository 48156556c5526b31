-- The stage of a map. This project's own rule.
use Rattle.std.specs.Prelude.{◌≡◌, ◌++◌, ℕ, true, false, List, length, Result, Ok, Err}
use Rattle.command_words.specs.Given.{Named}
use Rattle.edge_io.specs.Faults.{CountRose}
use Rattle.edge_io.specs.Files.{FailsToOpen, FilesSeen, Opens}
use Rattle.edge_io.specs.Whole.{ReadsBytes}
use Rattle.run_files.specs.MapReading.{IsReadAs, IsReadFrom}
use Rattle.run_files.specs.declared.map_error.MapFileError.TheVariants as told
use Rattle.overpass_graph.specs.Maps.{MapValue}
use Rattle.run_files.specs.Chain.{Stage}
use Rattle.run_files.specs.Limits.{most_map}
use Rattle.run_files.specs.NoteLines.{map_note, read_notes}
use Rattle.run_files.specs.Notes.{Inputs, IsNoted}
use Rattle.run_files.specs.declared.status.Status.{Status}
use Rattle.run_files.specs.declared.status.Status.TheVariants.{Map, TooLong, NotFound, ReadFault, NoMemory}

-- what is answered of the open file of a map that a word names, by the bytes that were read of it: the map of
-- these bytes, which is that of the text that was left; that it is too long, or its first fault; a read fault
-- where the count of faults rose; or want of memory. Every answer but the read fault leaves that count
abbrev pub IsMapAnswer : Named → List ℕ → Stage MapValue
IsMapAnswer file read old new (Ok map) = IsReadAs most_map read (Ok map) ×
    IsReadFrom most_map old.left (Ok map) × (new.faults ≡ old.faults)
IsMapAnswer file read old new (Err (TooLong at)) = (at ≡ file.word) ×
    IsReadAs most_map read (Err told.TooLong) × IsReadFrom most_map old.left (Err told.TooLong) ×
    (new.faults ≡ old.faults)
IsMapAnswer file read old new (Err (Map at error)) = (at ≡ file.word) ×
    IsReadAs most_map read (Err (told.Map error)) × IsReadFrom most_map old.left (Err (told.Map error)) ×
    (new.faults ≡ old.faults)
IsMapAnswer file read old new (Err (ReadFault at)) = (at ≡ file.word) × CountRose old.faults new.faults
IsMapAnswer file read old new (Err NoMemory) = new.faults ≡ old.faults
IsMapAnswer file read old new (Err status) = ⊥

-- what is noted of the file of a map of which these bytes were read: its parts, and then its map
abbrev pub map_notes : Named → List ℕ → Result MapValue Status → List ℕ
map_notes file read (Ok map) = read_notes file (length read) ++ map_note file map
map_notes file read (Err status) = read_notes file (length read)

-- the stage of a map's file, which is opened once and read piece by piece: the opening failed, or it said that no
-- file has the name, and nothing is noted; or the file was open, these bytes of it were read, by at most one read
-- more than the limit, with what is answered and noted by them
pub data TakesMap (file : Named) (old new : Inputs) : Result MapValue Status → Type 0 where
  failed :
      FailsToOpen old.files new.files → new.notes ≡ old.notes → TakesMap file old new (Err (ReadFault file.word))
  missing :
      Opens old.files new.files file.name false → new.notes ≡ old.notes →
      TakesMap file old new (Err (NotFound file.word))
  reading :
      {opened : FilesSeen} {bytes : List ℕ} {result : Result MapValue Status} →
      Opens old.files opened file.name true → ReadsBytes most_map opened new.files bytes →
      IsMapAnswer file bytes opened new.files result →
      IsNoted (map_notes file bytes result) old.notes new.notes → TakesMap file old new result
