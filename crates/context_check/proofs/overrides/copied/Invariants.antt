use Rattle.std.proofs.Common.{◌≡◌, take}
use Rattle.context_check.proofs.overrides.copied.Given as goal

abbrev pub invariant-items : goal.invariant-items
invariant-items l = l.copy ≡ take l.item-index l.items
