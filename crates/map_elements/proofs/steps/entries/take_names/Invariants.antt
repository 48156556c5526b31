use Rattle.std.proofs.Common.{◌≡◌, length, [], zero}
use Rattle.std.specs.Prelude.{option_map}
use Rattle.map_elements.specs.Entries.{entries_from}
use Rattle.map_elements.proofs.steps.entries.take_names.Given as goal

abbrev pub invariant-names : goal.invariant-names
invariant-names l = entries_from (option_map (λ n. n.now) l.fn.before) [] zero l.fn.left ≡ entries_from (option_map (λ n. n.now) l.name) [] zero l.left

abbrev pub decreases-names : goal.decreases-names
decreases-names l = length l.left
