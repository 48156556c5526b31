use Rattle.cost_model.specs.Rides.{ride_of}
use Rattle.track_legs.proofs.TrackLemmas.{leg-there, leg-walk}
use Rattle.track_legs.proofs.check.is_leg.Goals as goal

pub returns : goal.returns
returns g c =
    let terrain = g.G.TerrainOf.terrain c.args.terrain.now in
    let ride = ride_of (record { terrain = terrain; cut = c.args.cut.now; turns = c.args.turns }) in
    let leg = c.args.leg.now in
    let links = c.as_slice-walk.ensures.value in
    record {
      exact = (
        λ yes_is. leg-there ride c.args.start c.args.target leg c.as_slice-walk.result.now links
            (c.is_walk_at.ensures.exact.0 yes_is),
        λ is. c.is_walk_at.ensures.exact.1 (leg-walk ride c.args.start c.args.target leg c.as_slice-walk.result.now
            links is),
      );
    }
