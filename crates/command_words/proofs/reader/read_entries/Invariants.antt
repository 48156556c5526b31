use Rattle.std.proofs.Common.{◌≡◌, [], drop, length}
use Rattle.command_words.specs.Reader.{entries_after}
use Rattle.command_words.specs.Refusals.{texts_of}
use Rattle.command_words.proofs.reader.read_entries.Given as goal

abbrev pub invariant-words : goal.invariant-words
invariant-words l = record {
  counted : length l.entries.items ≡ l.word-index;
  rest : entries_after l.keys [] (texts_of l.words) ≡ entries_after l.keys l.entries.items (texts_of (drop l.word-index l.words));
}
