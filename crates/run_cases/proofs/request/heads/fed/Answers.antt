use Rattle.std.proofs.Common.{◌+◌, take, arith}
use Rattle.route_http.proofs.CallerLemmas.{more_from}
use Rattle.run_cases.proofs.request.heads.fed.Goals as goal

pub bytes-preserved : goal.bytes-preserved
bytes-preserved c = record {
  fits = omega (arith, c.bytes-test.true);
  none = (more_from (take (c.bytes.came + 1) c.args.bytes.now) c.in-More.ensures.exact).0;
}
