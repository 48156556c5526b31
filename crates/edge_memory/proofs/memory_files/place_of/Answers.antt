use Rattle.std.proofs.Common.{◌≡◌, ◌∙◌, sym, true, get_or}
use Rattle.std.specs.Str.{bytes_eq}
use Rattle.edge_memory.proofs.FolderLemmas.{content_of-here}
use Rattle.edge_memory.proofs.memory_files.place_of.Goals as goal

pub returns-then-eq : goal.returns-then-eq
returns-then-eq c =
    let test : bytes_eq (get_or c.args.files.now c.finding.place c.index-files-place.result).0 c.args.name.now ≡ true =
    rw (← c.as_slice.ensures.value) (sym c.if-eq.ensures) in
    let here = content_of-here c.args.files.now c.finding.place c.index-files-place.result c.args.name.now c.finding-test.true test in
    record { value = here ∙ sym c.finding.invariant.rest }
