use Rattle.route_http.proofs.SpotLemmas.{spot_made}
use Rattle.route_http.proofs.spots.spot_by.Goals as goal

pub returns-in-Ok-coord : goal.returns-in-Ok-coord
returns-in-Ok-coord c = record {
  exact = spot_made c.args.lon.now c.args.lat.now c.in-Ok.lon c.in-Ok-coord.lat
      c.in-Ok.ensures.exact c.in-Ok-coord.ensures.exact c.in-Ok.ensures.found.1 c.in-Ok-coord.ensures.found.1
      c.new.result c.new.ensures.value c.new.ensures.refused.1;
}
