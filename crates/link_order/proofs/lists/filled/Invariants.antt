use Rattle.std.proofs.Common.{◌≡◌, replicate}
use Rattle.link_order.proofs.lists.filled.Given as goal

abbrev pub invariant-places : goal.invariant-places
invariant-places g l = l.made.items ≡ replicate l.place l.item
