use Rattle.std.proofs.Common.{◌≡◌, ◌++◌, drop}
use Rattle.edge_memory.proofs.TapeLemmas.{listened_in}
use Rattle.edge_memory.proofs.tape.Tape.listened.Given as goal

abbrev pub invariant-notes : goal.invariant-notes
invariant-notes l = record {
  rest : listened_in l.self-inside.kept.items l.self-inside.notes.items ≡ l.lines.items ++
      listened_in l.self-inside.kept.items (drop l.note-index l.self-inside.notes.items);
}
