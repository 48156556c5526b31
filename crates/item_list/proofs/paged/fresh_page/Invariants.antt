use Rattle.std.proofs.Common.{◌≡◌, replicate}
use Rattle.item_list.proofs.paged.fresh_page.Given as goal

abbrev pub invariant-places : goal.invariant-places
invariant-places g l = l.page.items ≡ replicate l.made l.rest
