use Rattle.std.proofs.Common.{◌∙◌, ap, arith}
use Rattle.edge_memory.specs.Tape.{bytes_of}
use Rattle.edge_memory.proofs.PlaceLemmas.{bytes-at, bytes-beyond}
use Rattle.edge_memory.proofs.cue.entry_bytes.Goals as goal

pub returns-then-place-script : goal.returns-then-place-script
returns-then-place-script c = record {
  exact = c.own_bytes.ensures.exact ∙ ap bytes_of c.index-script-place.is
      ∙ bytes-at c.args.script.now c.args.place c.index-script-place.result (omega arith);
}

pub returns-else-place-script : goal.returns-else-place-script
returns-else-place-script c = record { exact = bytes-beyond c.args.script.now c.args.place (omega arith) }
