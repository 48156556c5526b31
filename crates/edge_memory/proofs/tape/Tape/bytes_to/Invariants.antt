use Rattle.std.proofs.Common.{◌≡◌, ◌++◌, drop}
use Rattle.edge_memory.proofs.TapeLemmas.{sent_in}
use Rattle.edge_memory.proofs.tape.Tape.bytes_to.Given as goal

abbrev pub invariant-notes : goal.invariant-notes
invariant-notes l = record {
  rest : sent_in l.id l.self-inside.kept.items l.self-inside.notes.items ≡ l.bytes.items ++
      sent_in l.id l.self-inside.kept.items (drop l.note-index l.self-inside.notes.items);
}
