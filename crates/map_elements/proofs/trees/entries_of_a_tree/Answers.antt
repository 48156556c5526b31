-- The entries of a tree.
use Rattle.map_elements.proofs.TreeLemmas.{members_cut, items_cut}
use Rattle.map_elements.proofs.trees.entries_of_a_tree.Goals as goal

pub returns : goal.returns
returns c = record { members = members_cut; items = items_cut }
