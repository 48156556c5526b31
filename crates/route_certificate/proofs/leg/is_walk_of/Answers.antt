use Rattle.cost_model.specs.Rides.{leg_between}
use Rattle.route_certificate.specs.Asks.{setting_in}
use Rattle.route_certificate.proofs.LegLemmas.{of-walk, walk-of}
use Rattle.route_certificate.proofs.leg.is_walk_of.Goals as goal

pub returns-then-is_home : goal.returns-then-is_home
returns-then-is_home g c =
    let leg = leg_between (setting_in (g.G.TerrainOf.terrain c.args.terrain.now) c.args.ask.now) c.args.start c.args.target in
    let proof = c.args.proof.now in
    record {
      exact = (
        λ yes_is. walk-of leg proof c.as_slice-walk.result.now c.as_slice-walk.ensures.value
            (c.is_home.ensures.exact.0 c.if-is_home.true) (c.is_walk_at.ensures.exact.0 yes_is),
        λ is. c.is_walk_at.ensures.exact.1 (of-walk leg proof c.as_slice-walk.result.now c.as_slice-walk.ensures.value is),
      );
    }

pub returns-else-is_home : goal.returns-else-is_home
returns-else-is_home g c = record {
  exact = (
    λ never. absurd (cc),
    λ is. (
        let yes_is = c.is_home.ensures.exact.1 is.home in
        let never : ⊥ = cc in
        absurd never
        ),
  );
}
