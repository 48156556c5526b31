use Rattle.std.proofs.Common.{◌∙◌, ap, min}
use Rattle.std.proofs.lemmas.List.{take_rest}
use Rattle.edge_memory.proofs.FolderLemmas.{Reads-memory}
use Rattle.edge_memory.proofs.memory_files.MemFilesFiles.read.Goals as goal

pub returns-clause-found : goal.returns-clause-found
returns-clause-found c =
    let given = simp take_rest at c.min.ensures in
    let front = simp take_rest at c.copy_from_slice.ensures.after in
    Reads-memory c.self.inside c.args.self.now c.content.result.now c.min-given.result c.next_count-self-inside.result
    c.next_count-self-inside-2.result
    c.args.buf.now c.copy_from_slice.new.self c.self.view_is (rw (← c.as_slice.ensures.value) c.content.ensures.value)
    c.self.invariant.piece c.requires.some
    (c.min-given.ensures ∙ ap (λ m. min m c.self.inside.piece) given) front c.next_count-self-inside-2.ensures.value
