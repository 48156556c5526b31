use Rattle.std.proofs.Common.{◌≡◌, length}
use Rattle.lookup_table.specs.Spelled.{spelled}
use Rattle.lookup_table.specs.Tag.{KeepWithin, add_spellings}
use Rattle.lookup_table.specs.Words.{words_of}
use Rattle.lookup_table.proofs.tag.add_spellings.Given as goal

abbrev pub invariant-loop-found : goal.invariant-loop-found
invariant-loop-found l =
    (add_spellings (spelled l.numbers) l.number (words_of l.rest)
    ≡ add_spellings (spelled l.initial.numbers) l.number (words_of l.spellings))
    × KeepWithin l.number (spelled l.initial.numbers) (spelled l.numbers)

abbrev pub decreases-loop-found : goal.decreases-loop-found
decreases-loop-found l = length l.rest
