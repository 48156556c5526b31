use Rattle.std.proofs.Common.{◌≡◌, drop}
use Rattle.std.specs.Map.{lookup}
use Rattle.std.specs.Str.{bytes_eq}
use Rattle.context_check.proofs.overrides.found.Given as goal

abbrev pub invariant-items : goal.invariant-items
invariant-items l = lookup (bytes_eq l.name) l.items ≡ lookup (bytes_eq l.name) (drop l.item-index l.items)
