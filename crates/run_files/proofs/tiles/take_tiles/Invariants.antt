use Rattle.std.proofs.Common.{List, drop}
use Rattle.hgt_tiles.specs.Relief.{Relief}
use Rattle.run_files.proofs.EachLemmas.{GoesFor}
use Rattle.run_files.specs.Notes.{inputs}
use Rattle.run_files.specs.Tiles.{AreTilesOf, NotesTile}
use Rattle.run_files.proofs.tiles.take_tiles.Given as goal

abbrev pub invariant-tiles : goal.invariant-tiles
invariant-tiles g l = record {
  reliefs : List Relief;
  are : AreTilesOf reliefs l.set;
  goes : GoesFor NotesTile l.tiles (inputs (g.F.Files.seen l.initial.files) l.initial.notes) reliefs (drop l.file-index l.tiles) (inputs (g.F.Files.seen l.files) l.notes);
}
