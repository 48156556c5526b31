use Rattle.std.proofs.Common.{◌≡◌, ◌+◌, length, arith}
use Rattle.lookup_table.specs.Spelled.{spelled}
use Rattle.lookup_table.proofs.TagLemmas.{AreWithin-more, length_push}
use Rattle.lookup_table.proofs.tag.Tag.add_value.Goals as goal

pub invariant_of-self-2 : goal.invariant_of-self-2
invariant_of-self-2 c =
    let old = c.self.inside.firsts.items in
    let new = c.add_first.new.firsts.items in
    let longer : length new ≡ length old + 1 = length_push old new _ c.in_ok-add_first.ensures.value in
    c.add_spellings.ensures.sound (length new) (omega arith) (omega (arith, longer, c.len.ensures, c.self.inside.firsts.ok.0))
    (AreWithin-more (length old) (length new) (spelled c.self.inside.numbers) (omega (arith, longer)) c.self.invariant)

pub returns-clause-sound : goal.returns-clause-sound
returns-clause-sound c = invariant_of-self-2 c
