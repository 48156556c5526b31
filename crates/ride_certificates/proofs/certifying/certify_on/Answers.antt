use Rattle.std.proofs.Common.{IfOk, subst}
use Rattle.cost_model.specs.Rides.{Terrain}
use Rattle.route_certificate.specs.Certified.{AreWritable}
use Rattle.way_class.specs.Links.{links_of}
use Rattle.ride_certificates.proofs.certifying.certify_on.Goals as goal

pub returns-clause-fits : goal.returns-clause-fits
returns-clause-fits c =
    let its = c.terrain.result in
    let seen : Terrain = record { map = its.map.now; links = links_of its.facts.now; prices = its.rates.now } in
    subst (λ (t : Terrain). IfOk c.certify.result (AreWritable t.map)) c.terrain.ensures.exact c.certify.ensures.fits
