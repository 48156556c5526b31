-- The steps of a whole text.
use Rattle.map_elements.proofs.TreeLemmas.{of_tree}
use Rattle.map_elements.proofs.trees.steps_of_a_tree.Goals as goal

pub returns : goal.returns
returns c = record { exact = of_tree }
