use Rattle.std.proofs.Common.{subst}
use Rattle.std.proofs.lemmas.List.Sorted.{IsNonDecreasingBy-from_sort}
use Rattle.std.specs.List.Sorted.{IsPermutation}
use Rattle.nearest_node.proofs.index.NodeIndex.new.Goals as goal

pub returns : goal.returns
returns c = record {
  exact = record {
    all = subst (λ keys. IsPermutation keys c.sort_unstable.new.self.items) c.in_ok-keys.ensures.exact c.sort_unstable.ensures.permutation;
    rising = IsNonDecreasingBy-from_sort (λ key. key) c.sort_unstable.new.self.items c.sort_unstable.ensures.sorted;
  };
}
