-- Up to a radius of 0 the least sum of each node is 0, whatever the prices and the target.
use Rattle.std.proofs.Common.{◌≡◌, ℕ, List, length, get_or, map, Some, None, sym, ◌∙◌, subst, arith}
use Rattle.std.proofs.lemmas.List.{get_or-map, length-map}
use Rattle.overpass_graph.specs.Roads.{Roads}
use Rattle.least_sums.specs.Prices.{Prices}
use Rattle.least_sums.specs.Sums.{AreLeastSumsUpTo, IsLeastSumUpTo, sum_of}
use Rattle.least_sums.specs.Keeping.{seen_up_to}
use Rattle.least_sums.proofs.NearLemmas.{seen-beyond, up_to}

-- whatever numbers are kept for the nodes, up to a radius of 0 they stand for the least sums
pub unknown-least :
    (roads : Roads) (prices : Prices) (target : ℕ) (sums : List ℕ) → length sums ≡ roads.nodes →
    AreLeastSumsUpTo roads prices target (up_to 0 sums)
unknown-least roads prices target sums counted = record {
  counted = length-map sums (seen_up_to 0) ∙ counted;
  least = λ node node_in.
      let seen : sum_of (map (seen_up_to 0) sums) node ≡ seen_up_to 0 (get_or sums node 0) =
      get_or-map (seen_up_to 0) sums node 0 None (omega (arith, node_in, counted)) in
      subst (IsLeastSumUpTo roads prices target (Some 0) node)
      (sym (seen ∙ seen-beyond 0 (get_or sums node 0) (omega arith)))
      (record {
        within = omega arith;
        least = λ walk is. omega arith;
        found = λ below. absurd (omega (arith, below));
      });
}
