use Rattle.std.proofs.Common.{◌≡◌, replicate}
use Rattle.link_hierarchy.proofs.numbers.filled.Given as goal

abbrev pub invariant-places : goal.invariant-places
invariant-places l = l.made.items ≡ replicate l.place l.number
