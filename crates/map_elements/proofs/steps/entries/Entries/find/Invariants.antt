use Rattle.std.proofs.Common.{◌≡◌, length}
use Rattle.map_elements.specs.Entries.{member}
use Rattle.map_elements.proofs.steps.entries.Entries.find.Given as goal

abbrev pub invariant-entries : goal.invariant-entries
invariant-entries l = member l.name l.self ≡ member l.name l.left

abbrev pub decreases-entries : goal.decreases-entries
decreases-entries l = length l.left
