use Rattle.lookup_table.proofs.LineLemmas.{some_spelling}
use Rattle.lookup_table.specs.Words.{words_of}
use Rattle.lookup_table.proofs.draft.Draft.take.Goals as goal

pub add-requires : goal.add-requires
add-requires c = record { some = some_spelling c.args.text.now c.in-Tag.name.now (words_of c.in-Tag.spellings.now) c.in-Tag.ensures.value }
