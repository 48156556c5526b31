use Rattle.geo_int.proofs.RootLemmas.{whole_root-is}
use Rattle.geo_int.proofs.roots.floor_root.Goals as goal

pub returns-then-n-clause-exact : goal.returns-then-n-clause-exact
returns-then-n-clause-exact c = whole_root-is _ _ c.root_of_word.ensures.below c.root_of_word.ensures.next

pub returns-else-n-clause-exact : goal.returns-else-n-clause-exact
returns-else-n-clause-exact c = whole_root-is _ _ c.isqrt.ensures.square_le c.isqrt.ensures.next_square_gt
