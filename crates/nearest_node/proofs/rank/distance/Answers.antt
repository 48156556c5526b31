use Rattle.geo_int.specs.Spot.{place_of}
use Rattle.std.proofs.Common.{refl, sym}
use Rattle.nearest_node.proofs.RankLemmas.{held-arrow, held-long}
use Rattle.nearest_node.proofs.rank.distance.Goals as goal

pub returns-in-Some : goal.returns-in-Some
returns-in-Some c = record {
  exact = held-arrow (place_of c.args.at) (place_of c.args.spot) c.in-Some.found (sym c.in-Some.ensures.exact);
}

pub returns-in-None : goal.returns-in-None
returns-in-None c = record { exact = sym (held-long _ (c.in-None.ensures.refused.0 refl)) }
