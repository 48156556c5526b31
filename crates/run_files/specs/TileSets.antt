-- A tile by the set that it is added to, for the parts alone. This project's own rule.
use Rattle.std.specs.Prelude.{Result, Ok, Err}
use Rattle.command_words.specs.Given.{Named}
use Rattle.edge_io.specs.Files.{FilesSeen}
use Rattle.hgt_tiles.specs.Relief.{Relief}
use Rattle.hgt_tiles.specs.Tiles.{AddsTile}
use Rattle.hgt_tiles.specs.declared.tile_set.Tiles.{Tiles}
use Rattle.run_files.specs.Tiles.{TakesTile}
use Rattle.run_files.specs.declared.status.Status.{Status}

-- the tile of a file was taken in and added
pub record HasAdded (file : Named) (old new : FilesSeen) (before after : Tiles) : Type 0 where
  pub relief : Relief
  pub taken : TakesTile file old new (Ok relief)
  pub added : AddsTile before after relief

-- the tile of a file is taken in and added to a set of tiles, or its stage refuses
abbrev pub AddsFile :
    {T : Type 0} (file : Named) (old new : FilesSeen) (before after : Tiles) → Result T Status → Type 0
AddsFile file old new before after (Ok a) = HasAdded file old new before after
AddsFile file old new before after (Err status) = TakesTile file old new (Err status)
