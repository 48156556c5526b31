use Rattle.std.proofs.Common.{◌∙◌, inr, Err, ap}
use Rattle.run_files.proofs.TileLemmas.{tile-nameless, tile-read, tile-size}
use Rattle.run_files.proofs.tiles.tile_in.Goals as goal

pub returns-in-Ok : goal.returns-in-Ok
returns-in-Ok c = record {
  exact = tile-read c.args.file.now.word c.args.file.now.name c.args.bytes.now c.as_bytes.result.now c.in-Ok.tile
      (c.as_bytes.ensures.value ∙ c.name.ensures.exact) c.in-Ok.ensures.found;
}

pub returns-in-Err-Name : goal.returns-in-Err-Name
returns-in-Err-Name c = record {
  exact = inr (tile-nameless c.args.file.now.word c.word-word.result c.args.file.now.name c.args.bytes.now c.as_bytes.result.now
      c.word-word.ensures.exact (c.as_bytes.ensures.value
      ∙ c.name.ensures.exact) (c.read.ensures.name.0 (c.in-Err-Name.is ∙ ap Err c.in-Err-Name.field-0-is)));
}

pub returns-in-Err-Size : goal.returns-in-Err-Size
returns-in-Err-Size c = record {
  exact = inr (tile-size c.args.file.now.word c.word-word.result c.args.file.now.name c.args.bytes.now c.as_bytes.result.now
      c.word-word.ensures.exact (c.as_bytes.ensures.value
      ∙ c.name.ensures.exact) (c.read.ensures.size.0 (c.in-Err-Size.is ∙ ap Err c.in-Err-Size.field-0-is)));
}
