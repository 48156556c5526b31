use Rattle.std.proofs.Common.{take}
use Rattle.cost_model.specs.Rides.{ride_of}
use Rattle.track_legs.proofs.WalkLemmas.{StandsAt}
use Rattle.track_legs.proofs.walks.is_walk.Given as goal

abbrev pub invariant-links : goal.invariant-links
invariant-links g l =
    StandsAt (ride_of (record { terrain = g.G.TerrainOf.terrain l.terrain; cut = l.cut; turns = l.turns })) l.start
    (take l.place l.walk) l.node l.last
