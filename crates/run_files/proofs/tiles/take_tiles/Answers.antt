use Rattle.std.proofs.Common.{◌++◌, ◌∷◌, [], refl}
use Rattle.run_files.proofs.EachLemmas.{at-more, at-refused}
use Rattle.run_files.proofs.TileLemmas.{tiles-more}
use Rattle.run_files.specs.Notes.{inputs}
use Rattle.run_files.specs.Tiles.{NotesTile}
use Rattle.run_files.proofs.tiles.take_tiles.Goals as goal

pub returns-in-Err : goal.returns-in-Err
returns-in-Err g c = record {
  taken = at-refused NotesTile c.args.tiles.now (inputs (g.F.Files.seen c.args.files.now) c.args.notes.now) c.tiles.invariant.reliefs c.tiles.file-index
      c.file-item.result
      (inputs (g.F.Files.seen c.tiles.files) c.tiles.notes) (inputs (g.F.Files.seen c.add_tile.new.files) c.tiles.notes) c.in-Err.status c.tiles-test.true c.file-item.is
      c.tiles.invariant.goes (c.in-Err.ensures.taken, refl);
}

pub tiles-preserved : goal.tiles-preserved
tiles-preserved g c =
    let added = c.in-Ok.ensures.taken in
    record {
      reliefs = c.tiles.invariant.reliefs ++ added.relief ∷ [];
      are = tiles-more c.tiles.invariant.reliefs c.tiles.set c.add_tile.new.tiles added.relief c.tiles.invariant.are added.added;
      goes = at-more NotesTile c.args.tiles.now (inputs (g.F.Files.seen c.args.files.now) c.args.notes.now) c.tiles.invariant.reliefs c.tiles.file-index
          c.file-item.result
          (inputs (g.F.Files.seen c.tiles.files) c.tiles.notes) (inputs (g.F.Files.seen c.add_tile.new.files) c.note_file.new.notes) added.relief c.tiles-test.true c.file-item.is
          c.tiles.invariant.goes (added.taken, c.note_file.ensures.noted);
    }
