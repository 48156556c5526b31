use Rattle.std.proofs.Common.{map, drop}
use Rattle.httparse.specs.Spans.{header_bytes}
use Rattle.route_http.proofs.FieldLemmas.{TellsOn}
use Rattle.route_http.proofs.fields.body_of.Given as goal

abbrev pub invariant-headers : goal.invariant-headers
invariant-headers l = TellsOn (map (header_bytes l.head) l.headers) (map (header_bytes l.head) (drop l.header-index l.headers)) l.told
