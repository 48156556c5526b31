-- The world of a command's files, with profiles. This project's own rule.
use Rattle.std.specs.Prelude.{List, Ok}
use Rattle.command_words.specs.Given.{Named}
use Rattle.route_ready.specs.Shelves.{shelf_of}
use Rattle.route_ready.specs.World.{world_of}
use Rattle.route_ready.specs.Worlds.{WorldValue}
use Rattle.run_files.specs.Chain.{Settles, Then}
use Rattle.run_files.specs.Map.{TakesMap}
use Rattle.run_files.specs.NoteLines.{table_note}
use Rattle.run_files.specs.Notes.{NotedStage, Noting}
use Rattle.run_files.specs.Profiles.{NamedProfile, TakesProfiles}
use Rattle.run_files.specs.TagTable.{TakesTable}
use Rattle.run_files.specs.Tiles.{TakesTiles}
use Rattle.run_files.specs.declared.world.Offered.{Offered}

-- the files of a world with profiles, as words name them
pub record WorldFiles : Type 0 where
  pub lookups : Named
  pub profiles : List Named
  pub map : Named
  pub tiles : List Named

-- what is offered to requests: a world, and profiles by their names
pub record OfferedValue : Type 0 where
  pub world : WorldValue
  pub profiles : List NamedProfile

-- the files of the tag table, of the profiles, of the map and of the tiles are taken in one after the other,
-- and each is noted before the next; the first refusal is the answer
abbrev pub TakesWorld : WorldFiles → NotedStage OfferedValue
TakesWorld files =
    Then (Noting (TakesTable files.lookups) (λ table. table_note files.lookups)) (λ table.
    Then (TakesProfiles table files.profiles) (λ profiles.
    Then (TakesMap files.map) (λ map.
    Then (TakesTiles files.tiles) (λ tiles.
    Settles {A = OfferedValue} (Ok (record {
      world = record { table = table; map = map; tiles = tiles };
      profiles = profiles;
    }))))))

-- what stands for what is offered
abbrev pub offered_of : Offered → OfferedValue
offered_of offered = record { world = world_of offered.world; profiles = shelf_of offered.shelf }
