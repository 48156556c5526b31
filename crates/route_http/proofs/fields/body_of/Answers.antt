use Rattle.std.proofs.Common.{map}
use Rattle.httparse.specs.Spans.{header_bytes}
use Rattle.route_http.proofs.FieldLemmas.{TellsOn-init}
use Rattle.route_http.proofs.fields.body_of.Goals as goal

pub headers-init : goal.headers-init
headers-init c = TellsOn-init (map (header_bytes c.args.head.now) c.args.headers.now)
