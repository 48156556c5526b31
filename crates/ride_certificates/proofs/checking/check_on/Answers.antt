use Rattle.std.proofs.lemmas.Result.{IfOk-weaker}
use Rattle.cost_model.specs.Rides.{Terrain}
use Rattle.route_certificate.specs.declared.ask.TrackAsk.{TrackAsk}
use Rattle.route_ready.specs.World.{world_of}
use Rattle.std.proofs.Common.{refl}
use Rattle.way_class.specs.Links.{links_of}
use Rattle.ride_certificates.proofs.AskLemmas.{least-on}
use Rattle.ride_certificates.proofs.checking.check_on.Goals as goal

pub returns-clause-least : goal.returns-clause-least
returns-clause-least c =
    let its = c.terrain.result in
    let seen : Terrain = record { map = its.map.now; links = links_of its.facts.now; prices = its.rates.now } in
    let basis = c.args.basis.now in
    let ask : TrackAsk = record { nodes = c.as_slice.result; cut = c.as_slice-2.result; turns = basis.ready.turns } in
    IfOk-weaker c.verify.result _ _
    (λ verdict least cost says.
    least-on (world_of c.args.world.now) basis seen ask c.terrain.ensures.exact c.as_slice.ensures.value
    c.as_slice-2.ensures.value refl c.args.certificate.now (least cost says))
    c.verify.ensures.least
