use Rattle.link_hierarchy.specs.Potentials.{AreBegun}
use Rattle.link_hierarchy.proofs.down.begin.Given as goal

abbrev pub invariant-targets : goal.invariant-targets
invariant-targets l = AreBegun l._nodes l.targets l.place l.down
