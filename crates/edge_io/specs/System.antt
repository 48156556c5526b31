-- This project's own rule: what an answer of the system's files means.
use Rattle.std.specs.Prelude.{◌≡◌, ◌≢◌, Bool, false, Option, Some, None, Result, Ok, Err, is_some}
use Rattle.std.specs.declared.io.Error.{Error}
use Rattle.std.specs.declared.io.ErrorKind.TheVariants.{NotFound}
use Rattle.std.specs.IoError.{error_kind}
use Rattle.edge_io.specs.Files.{FilesSeen}
use Rattle.edge_io.specs.declared.failed.Failed.{Failed}

-- the files of the system before any call
abbrev pub fresh_system : FilesSeen
fresh_system = record { files = None; left = None; is_open = false; opens = 0; reads = 0; faults = 0 }

-- an opened file is the open one; none has the name exactly where the system says so; any other error is a
-- failure
abbrev pub TellsOpened : {A : Type 0} → Result A Error → Result (Option A) Failed → Type 0
TellsOpened (Ok file) (Ok found) = found ≡ Some file
TellsOpened (Ok file) (Err failed) = ⊥
TellsOpened (Err error) (Ok None) = error_kind error ≡ NotFound
TellsOpened (Err error) (Ok (Some file)) = ⊥
TellsOpened (Err error) (Err failed) = error_kind error ≢ NotFound

-- what is open after an opening, and whether a file was found: the file that was opened, where one was, or none;
-- a failed opening leaves what was open
abbrev pub Settles : {A : Type 0} → (old new : Option A) → Result (Option A) Failed → Result Bool Failed → Type 0
Settles old new (Ok file) result = (new ≡ file) × (result ≡ Ok (is_some file))
Settles old new (Err failed) result = (new ≡ old) × (result ≡ Err failed)
