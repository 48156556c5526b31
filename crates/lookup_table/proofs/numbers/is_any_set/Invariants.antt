use Rattle.std.proofs.Common.{◌≡◌, ◌-◌, length, drop}
use Rattle.lookup_table.specs.Numbers.{has_set, some_set}
use Rattle.lookup_table.proofs.numbers.is_any_set.Given as goal

abbrev pub invariant-places : goal.invariant-places
invariant-places l = has_set l.numbers ≡ some_set (drop l.place l.numbers)

abbrev pub decreases-places : goal.decreases-places
decreases-places l = length l.numbers - l.place
