-- The stages of tiles, one after the other. This project's own rule.
use Rattle.std.specs.Prelude.{ℕ, ◌≡◌, ◌&&◌, Bool, List, Result, Ok, Err}
use Rattle.std.specs.List.{find}
use Rattle.std.specs.Ordering.{int_eq}
use Rattle.command_words.specs.Given.{Named}
use Rattle.hgt_tiles.specs.File.{relief_of_file}
use Rattle.hgt_tiles.specs.Relief.{Relief}
use Rattle.hgt_tiles.specs.Tiles.{relief_at}
use Rattle.hgt_tiles.specs.declared.names.Corner.{Corner}
use Rattle.hgt_tiles.specs.declared.tile_set.Tiles.{Tiles}
use Rattle.item_list.specs.Answer.{answer_map}
use Rattle.run_files.specs.Chain.{Settles, Stage, TakesEach, Then}
use Rattle.run_files.specs.File.{TakesFile}
use Rattle.run_files.specs.Limits.{most_tile}
use Rattle.run_files.specs.NoteLines.{tile_note}
use Rattle.run_files.specs.Notes.{Inputs, NotedStage, Noting}
use Rattle.run_files.specs.declared.status.Status.{Status}
use Rattle.run_files.specs.declared.status.Status.TheVariants.{Tile}

-- the relief that a file of this name and these bytes holds, or its refusal, which names the word of the file
abbrev pub tile_in : ℕ → List ℕ → List ℕ → Result Relief Status
tile_in word name bytes = answer_map (λ (r : Relief). r) (Tile word) (relief_of_file name bytes)

-- the file is taken in, and then its tile is read
abbrev pub TakesTile : Named → Stage Relief
TakesTile file = Then (TakesFile file most_tile) (λ bytes. Settles (tile_in file.word file.name bytes))

-- so it is, and then noted
abbrev pub NotesTile : Named → NotedStage Relief
NotesTile file = Noting (TakesTile file) (λ relief. tile_note file)

-- the reliefs of these files are taken in and noted one after the other
abbrev pub TakesReliefs : List Named → NotedStage (List Relief)
TakesReliefs files = TakesEach NotesTile files

-- two corners are one
abbrev pub same_corner : Corner → Corner → Bool
same_corner a b = int_eq a.lon b.lon && int_eq a.lat b.lat

-- the tiles are these reliefs, of each corner the first
abbrev pub AreTilesOf : List Relief → Tiles → Type 0
AreTilesOf reliefs tiles =
    (corner : Corner) → relief_at tiles corner ≡ find (λ relief. same_corner relief.corner corner) reliefs

-- the reliefs of these files were taken in, and these are their tiles
pub record HasTaken (files : List Named) (old new : Inputs) (tiles : Tiles) : Type 0 where
  pub reliefs : List Relief
  pub taken : TakesReliefs files old new (Ok reliefs)
  pub are : AreTilesOf reliefs tiles

-- the tiles of these files are taken in, of each corner the first; or the stage of one refuses
abbrev pub TakesTiles : List Named → NotedStage Tiles
TakesTiles files old new (Ok tiles) = HasTaken files old new tiles
TakesTiles files old new (Err status) = TakesReliefs files old new (Err status)
