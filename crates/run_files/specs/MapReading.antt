-- What the bytes of a map's file come to, of which so many are taken (this project's own rule).
use Rattle.std.specs.Prelude.{◌≡◌, ◌⊎◌, ℕ, ◌<◌, ◌≤◌, List, length, take, Option, Some, None, Result, Ok, Err}
use Rattle.edge_io.specs.Faults.{CountRose}
use Rattle.edge_io.specs.Whole.{ReadsBytes}
use Rattle.command_words.specs.Given.{Named}
use Rattle.run_files.specs.NoteLines.{read_notes}
use Rattle.run_files.specs.Notes.{Inputs, IsNoted}
use Rattle.run_files.specs.declared.map_error.MapFileError.{MapFileError}
use Rattle.run_files.specs.declared.map_error.MapFileError.TheVariants.{Fault, TooLong, Map, NoMemory}
use Rattle.map_tables.specs.declared.error.MapError.{MapError}
use Rattle.map_tables.specs.declared.error.MapError.TheVariants as map
use Rattle.overpass_graph.specs.Builder.{IsFaultOfBeginning, IsFaultOfText, IsMapOfText, MayBecomeMap}
use Rattle.overpass_graph.specs.Maps.{MapValue}

-- some first bytes, of those that are taken, have this first fault
pub record HasFaultWithin (limit : ℕ) (bytes : List ℕ) (fault : MapError) : Type 0 where
  pub count : ℕ
  pub there : count ≤ length bytes
  pub taken : count ≤ limit
  pub is : IsFaultOfBeginning (take count bytes) fault

-- what bytes come to: their map, where all are taken; that there are too many, of which those that are taken
-- may become a map; the first fault of those that are taken, or at the end where all are; or a fault of reading
-- or want of memory
abbrev pub IsReadAs : ℕ → List ℕ → Result MapValue MapFileError → Type 0
IsReadAs limit bytes (Ok map) = (length bytes ≤ limit) × IsMapOfText bytes map
IsReadAs limit bytes (Err TooLong) = (limit < length bytes) × MayBecomeMap (take limit bytes)
IsReadAs limit bytes (Err (Map fault)) = HasFaultWithin limit bytes fault ⊎
    ((length bytes ≤ limit) × IsFaultOfText bytes fault)
IsReadAs limit bytes (Err Fault) = Unit {0}
IsReadAs limit bytes (Err NoMemory) = Unit {0}

-- the same of what is left of the open file, where it is told
abbrev pub IsReadFrom : ℕ → Option (List ℕ) → Result MapValue MapFileError → Type 0
IsReadFrom limit None result = Unit {0}
IsReadFrom limit (Some bytes) result = IsReadAs limit bytes result

-- some bytes of the open file were read, with what they come to, and noted
pub record ReadsMap (file : Named) (limit : ℕ) (old new : Inputs) (result : Result MapValue MapFileError) :
    Type 0 where
  pub bytes : List ℕ
  pub how : ReadsBytes limit old.files new.files bytes
  pub is : IsReadAs limit bytes result
  pub noted : IsNoted (read_notes file (length bytes)) old.notes new.notes

-- a fault of reading is answered where the count of faults rose, and every other answer leaves it
abbrev pub CountsMapFault : ℕ → ℕ → Result MapValue MapFileError → Type 0
CountsMapFault old new (Ok map) = new ≡ old
CountsMapFault old new (Err Fault) = CountRose old new
CountsMapFault old new (Err TooLong) = new ≡ old
CountsMapFault old new (Err (Map fault)) = new ≡ old
CountsMapFault old new (Err NoMemory) = new ≡ old

-- ---- For the parts alone

-- a fault of a map has this property; nothing else but want of memory is refused
abbrev pub OnFault : {T : Type 0} → Result T MapFileError → (MapError → Type 0) → Type 0
OnFault (Ok a) P = Unit {0}
OnFault (Err (Map fault)) P = P fault
OnFault (Err NoMemory) P = Unit {0}
OnFault (Err Fault) P = ⊥
OnFault (Err TooLong) P = ⊥

-- the bytes are the text of this map, or have this fault
abbrev pub IsTextOf : List ℕ → Result MapValue MapFileError → Type 0
IsTextOf bytes (Ok map) = IsMapOfText bytes map
IsTextOf bytes (Err (Map fault)) = IsFaultOfText bytes fault
IsTextOf bytes (Err NoMemory) = Unit {0}
IsTextOf bytes (Err Fault) = ⊥
IsTextOf bytes (Err TooLong) = ⊥

-- what a fault of a map's builder is told as: want of memory as such, every other one as the map's fault
abbrev pub IsTold : MapError → MapFileError → Type 0
IsTold error told = ((error ≡ map.NoMemory) × (told ≡ NoMemory)) ⊎
    ((error ≡ map.NoMemory → ⊥) × (told ≡ Map error))
