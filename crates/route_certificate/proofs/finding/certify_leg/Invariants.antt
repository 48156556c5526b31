use Rattle.std.proofs.Common.{◌-◌, length}
use Rattle.route_certificate.specs.Asks.{leg_in}
use Rattle.route_certificate.specs.Provings.{IsProvingFor, counted_of, most_proved}
use Rattle.route_certificate.proofs.finding.certify_leg.Given as goal

abbrev pub invariant-turns : goal.invariant-turns
invariant-turns g l =
    IsProvingFor (g.G.TerrainOf.terrain l.terrain) l.fn.bound (leg_in (g.G.TerrainOf.terrain l.terrain) l.ask l.place) l.limit
    l.proving

abbrev pub decreases-turns : goal.decreases-turns
decreases-turns g l = most_proved (length (g.G.TerrainOf.terrain l.terrain).map.links) l.limit - counted_of l.proving
