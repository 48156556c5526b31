use Rattle.grid_map.proofs.LawLemmas.{grid_rules-keeps_laws}
use Rattle.grid_map.proofs.RunLemmas.{grid_rules-runs}
use Rattle.grid_map.proofs.space.GridSpace.new.Goals as goal

pub invariant_of-result : goal.invariant_of-result
invariant_of-result c = record {
  lawful = c.cells-cells.ensures.lawful;
  forward_fits = c.requires.forward;
  backward_fits = c.requires.backward;
  keeps =
      grid_rules-keeps_laws c.args.grid.now c.args.forward.now c.args.backward.now c.args.from c.args.to
      c.cells-cells.ensures.lawful c.requires.forward_cheap c.requires.backward_cheap c.requires.from;
}

pub returns-clause-lawful : goal.returns-clause-lawful
returns-clause-lawful c = grid_rules-runs _ _ _ _
