-- The world of files that are told as others.
use Rattle.std.proofs.Common.{◌≡◌, List, Result, subst}
use Rattle.command_words.specs.Given.{Named}
use Rattle.run_files.specs.Notes.{Inputs}
use Rattle.run_files.specs.World.{OfferedValue, TakesWorld, WorldFiles}
use Rattle.run_files.specs.declared.status.Status.{Status}

-- files that words name
abbrev pub files_named : Named → List Named → Named → List Named → WorldFiles
files_named lookups profiles map tiles = record { lookups = lookups; profiles = profiles; map = map; tiles = tiles }

-- a world that was taken in from files that are these
pub world-of : (files : WorldFiles) (profiles tiles : List Named) (old new : Inputs) (result : Result OfferedValue Status) →
    profiles ≡ files.profiles →
    tiles ≡ files.tiles → TakesWorld (files_named files.lookups profiles files.map tiles) old new result → TakesWorld files old new result
world-of files profiles tiles old new result same equal taken =
    subst (λ (p : List Named). TakesWorld (files_named files.lookups p files.map files.tiles) old new result) same
    (subst (λ (t : List Named). TakesWorld (files_named files.lookups profiles files.map t) old new result) equal taken)
