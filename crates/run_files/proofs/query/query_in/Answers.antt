use Rattle.std.proofs.Common.{arith}
use Rattle.route_http.proofs.CallerLemmas.{request-limited}
use Rattle.route_http.specs.Seen.{asked}
use Rattle.run_files.proofs.query.query_in.Goals as goal

pub returns-in-Ok-clause-within : goal.returns-in-Ok-clause-within
returns-in-Ok-clause-within c =
    let limited = request-limited c.args.text.now (asked c.in-Ok.request) c.in-Ok.ensures.exact in
    record { some = limited.some; few = limited.few; alternative = limited.alternative; labels = omega (arith, limited.labels); sources = limited.sources; destinations = limited.destinations }
