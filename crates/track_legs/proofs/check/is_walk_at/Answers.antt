use Rattle.std.proofs.Common.{◌<◌, ◌^◌, SomeIff, subst}
use Rattle.cost_model.specs.Prices.{Prices}
use Rattle.cost_model.specs.Rides.{ride_of}
use Rattle.cost_model.specs.Walks.{walk_cost}
use Rattle.track_legs.proofs.TrackLemmas.{walk-there, walk-costs}
use Rattle.track_legs.proofs.check.is_walk_at.Goals as goal

pub returns-then-is_walk : goal.returns-then-is_walk
returns-then-is_walk g c =
    let terrain = g.G.TerrainOf.terrain c.args.terrain.now in
    let ride = ride_of (record { terrain = terrain; cut = c.args.cut.now; turns = c.args.turns }) in
    let walk = c.args.walk.now in
    let told : SomeIff c.cost_along.result (walk_cost ride.prices ride.facts walk < 2 ^ 128) (walk_cost ride.prices ride.facts walk) =
    subst (λ (p : Prices). SomeIff c.cost_along.result (walk_cost p ride.facts walk < 2 ^ 128) (walk_cost p ride.facts walk))
    c.rates.ensures.value c.cost_along.ensures.exact in
    record {
      exact = (
        λ yes_is. walk-there ride c.args.start c.args.target walk c.args.cost c.cost_along.result (2 ^ 128) told
            (c.is_walk.ensures.exact.0 c.if-is_walk.true) (c.is_kept.ensures.exact.0 yes_is),
        λ at. c.is_kept.ensures.exact.1 (walk-costs ride c.args.start c.args.target walk c.args.cost
            c.cost_along.result (2 ^ 128) told c.is_kept.ensures.fits at),
      );
    }
