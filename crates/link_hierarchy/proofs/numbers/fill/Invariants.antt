use Rattle.std.proofs.Common.{length}
use Rattle.link_hierarchy.specs.Numbers.{AreFirst}
use Rattle.link_hierarchy.proofs.numbers.fill.Given as goal

abbrev pub invariant-places : goal.invariant-places
invariant-places l = AreFirst l.number (length l.initial.items.items) l.place l.items.items
