use Rattle.cost_model.specs.Rides.{ride_of}
use Rattle.track_legs.proofs.TrackLemmas.{legs-more}
use Rattle.track_legs.proofs.check.recheck.Goals as goal

pub legs-preserved : goal.legs-preserved
legs-preserved g c =
    let terrain = g.G.TerrainOf.terrain c.args.terrain.now in
    legs-more (ride_of (record { terrain = terrain; cut = c.args.cut.now; turns = c.args.turns })) c.args.track.now
    c.as_slice-nodes.result.now c.as_slice-legs.result.now c.legs.place c.index-legs-place.result
    c.as_slice-nodes.ensures.value c.as_slice-legs.ensures.value c.legs-test.true c.index-legs-place.is c.legs.invariant
    (c.is_leg.ensures.exact.0 c.if-not-is_leg.false)
