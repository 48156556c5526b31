use Rattle.std.proofs.Common.{◌∙◌, length, ap, refl, lit<}
use Rattle.std.proofs.lemmas.List.{length-replicate}
use Rattle.overpass_graph.specs.Maps.{roads_of}
use Rattle.least_sums.proofs.NearLemmas.{near-below}
use Rattle.least_sums.proofs.UnknownLemmas.{unknown-least}
use Rattle.least_sums.proofs.unknown.unknown_sums.Goals as goal

pub invariant_of-result : goal.invariant_of-result
invariant_of-result c = near-below 0 c.in_ok-sums.sums (lit< tt)

pub returns : goal.returns
returns c =
    let sums = c.in_ok-sums.ensures.value in
    record {
      exact = λ prices target.
          unknown-least (roads_of c.args.map.now) prices target c.in_ok-sums.sums
          (ap length sums ∙ length-replicate c.nodes.result 0 ∙ c.nodes.ensures.value);
      small = near-below 0 c.in_ok-sums.sums (lit< tt);
      radius = refl;
    }
