use Rattle.std.proofs.Common.{ℕ, suc, ◌<◌}
use Rattle.cost_model.specs.Rides.{ride_of}
use Rattle.track_legs.specs.Tracks.{IsLegBetween, leg_at, node_at}
use Rattle.track_legs.proofs.check.recheck.Given as goal

abbrev pub invariant-legs : goal.invariant-legs
invariant-legs g l =
    let ride = ride_of (record { terrain = g.G.TerrainOf.terrain l.terrain; cut = l.cut; turns = l.turns }) in
    (k : ℕ) → k < l.place → IsLegBetween ride (node_at l.track k) (node_at l.track (suc k)) (leg_at l.track k)
