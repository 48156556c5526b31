use Rattle.std.proofs.Common.{◌-◌, length}
use Rattle.link_hierarchy.specs.Arcs.{AreWithin}
use Rattle.cases.proofs.sums.arcs.Given as goal

abbrev pub invariant-arcs : goal.invariant-arcs
invariant-arcs l = AreWithin l.nodes l.arcs.items

abbrev pub decreases-arcs : goal.decreases-arcs
decreases-arcs l = length l.case.words.items - l.place
