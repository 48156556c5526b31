use Rattle.std.proofs.Common.{sym, ◌∙◌}
use Rattle.made_routes.proofs.LengthLemmas.{distance-is}
use Rattle.made_routes.proofs.lengths.distance.Goals as goal

pub returns-clause-exact : goal.returns-clause-exact
returns-clause-exact c =
    distance-is c.args.grid.now c.args.a c.args.b _ _ _ c.in-Some.found c.spot.ensures.exact c.spot-2.ensures.exact
    (sym c.arrow.ensures.exact ∙ c.in-Some.is) c.from.ensures
