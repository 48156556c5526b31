use Rattle.std.proofs.Common.{true, false, arith}
use Rattle.route_http.proofs.CallerLemmas.{read-limited}
use Rattle.route_http.specs.Seen.{asked}
use Rattle.route_http.specs.declared.form.Form.TheVariants.{GeoJson}
use Rattle.run_files.proofs.query.tabled_in.Goals as goal

pub returns-in-Ok-clause-within : goal.returns-in-Ok-clause-within
returns-in-Ok-clause-within c =
    let limited = read-limited false true GeoJson c.args.text.now (asked c.in-Ok.request) c.in-Ok.ensures.exact in
    record { some = limited.some; few = limited.few; alternative = limited.alternative; labels = omega (arith, limited.labels); sources = limited.sources; destinations = limited.destinations }
