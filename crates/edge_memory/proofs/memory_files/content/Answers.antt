use Rattle.edge_memory.proofs.FolderLemmas.{content_at-is, content_at-beyond}
use Rattle.std.proofs.Common.{◌∙◌}
use Rattle.edge_memory.proofs.memory_files.content.Goals as goal

pub returns-then-place-files : goal.returns-then-place-files
returns-then-place-files c = record {
  value = c.as_slice.ensures.value ∙ content_at-is c.args.files.now c.args.place c.index-files-place.result c.if-place-files.true;
}

pub returns-else-place-files : goal.returns-else-place-files
returns-else-place-files c = record { value = content_at-beyond c.args.files.now c.args.place c.if-place-files.false }
