use Rattle.std.proofs.Common.{◌≡◌, ◌⊎◌, Bool, List, subst}
use Rattle.cost_model.specs.OpenLinks.{open_by}
use Rattle.geo_int.specs.declared.spots.Spot.{Spot}
use Rattle.ride_certificates.specs.declared.basis.Basis.{Basis}
use Rattle.route_engine.specs.Waypoints.{AreNodes, OpenMap, RefusesWaypoint}
use Rattle.route_http.specs.Seen.{places}
use Rattle.route_ready.specs.World.{world_of}
use Rattle.route_ready.specs.declared.error.RouteError.TheVariants.{NoMemory}
use Rattle.way_class.specs.Links.{links_of}
use Rattle.way_class.specs.declared.bound.Bound.{Bound}
use Rattle.ride_certificates.proofs.BasisLemmas.{basis-over, refusal-over}
use Rattle.ride_certificates.proofs.basis.basis_with.Goals as goal

pub returns-in-Err : goal.returns-in-Err
returns-in-Err c =
    let world = world_of c.args.world.now in
    let e = c.in-Err.error in
    let land : Bound → List Bool → OpenMap = λ bound marks. record { map = world.map; is_open = open_by (links_of bound).facts marks } in
    let P : Bound → List Bool → List Spot → Type 0 = λ bound marks spots. (e ≡ NoMemory) ⊎ RefusesWaypoint (land bound marks) (places spots) e in
    record {
      exact = refusal-over world c.args.ready c.args.cut.items c.args.request.now.circles c.requires.cut
          (places c.args.request.now.waypoints) e
          (subst (λ (bound : Bound). P bound c.args.cut.items c.args.request.now.waypoints) c.deref.ensures
          (subst (λ (marks : List Bool). P c.deref.result.now marks c.args.request.now.waypoints) c.as_slice.ensures.value
          (subst (P c.deref.result.now c.as_slice.result.now) c.as_slice-2.ensures.value c.in-Err.ensures.exact)));
    }

pub returns-in-Ok : goal.returns-in-Ok
returns-in-Ok c =
    let world = world_of c.args.world.now in
    let basis : Basis = record { ready = c.args.ready; cut = c.args.cut; nodes = c.in-Ok.nodes } in
    let land : Bound → List Bool → OpenMap = λ bound marks. record { map = world.map; is_open = open_by (links_of bound).facts marks } in
    let P : Bound → List Bool → List Spot → Type 0 = λ bound marks spots. AreNodes (land bound marks) (places spots) c.in-Ok.nodes.items in
    record {
      exact = basis-over world basis c.args.request.now.circles (places c.args.request.now.waypoints) c.requires.counted
          c.requires.within.some c.requires.within.few c.requires.cut
          (subst (λ (bound : Bound). P bound c.args.cut.items c.args.request.now.waypoints) c.deref.ensures
          (subst (λ (marks : List Bool). P c.deref.result.now marks c.args.request.now.waypoints) c.as_slice.ensures.value
          (subst (P c.deref.result.now c.as_slice.result.now) c.as_slice-2.ensures.value c.in-Ok.ensures.exact)));
    }
