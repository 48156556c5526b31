use Rattle.std.proofs.Common.{length}
use Rattle.link_hierarchy.specs.Numbers.{IsLeft}
use Rattle.link_hierarchy.proofs.numbers.put_back.Given as goal

abbrev pub invariant-places : goal.invariant-places
invariant-places l = IsLeft l.rest (length l.initial.items.items) l.touched l.place l.items.items
