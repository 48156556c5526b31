use Rattle.std.proofs.Common.{◌≡◌, ◌∙◌, length, sym, ap, arith}
use Rattle.std.proofs.lemmas.List.{length-map}
use Rattle.geo_int.specs.Spot.{place_of}
use Rattle.route_http.specs.Seen.{asked}
use Rattle.route_engine.proofs.NumberLemmas.{count-none}
use Rattle.route_engine.proofs.aim.rows_for.Goals as goal

pub returns-then-sources-eq0-clause-exact : goal.returns-then-sources-eq0-clause-exact
returns-then-sources-eq0-clause-exact c =
    let request = c.args.request.now in
    let none : length request.sources ≡ 0 = omega (arith, c.len-sources.ensures.value, c.if-sources-eq0.true) in
    c.len.ensures.value ∙ sym (length-map request.waypoints place_of)
    ∙ sym (count-none request.sources (length (asked request).waypoints) none)
