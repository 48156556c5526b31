use Rattle.std.proofs.Common.{◌∙◌}
use Rattle.route_http.specs.Seen.{asked}
use Rattle.run_answers.proofs.NearbyLemmas.{near-read, near-refused}
use Rattle.run_answers.proofs.within.WithinAskAsk.request.Goals as goal

pub returns-in-Ok : goal.returns-in-Ok
returns-in-Ok c = record {
  exact = near-read c.args.self.now.cost c.args.query.now c.as_bytes.result.now (asked c.in-Ok.request) (asked c.costed.result)
      (c.as_bytes.ensures.value ∙ c.name.ensures.exact) c.in-Ok.ensures.exact c.costed.ensures.exact;
  within = c.costed.ensures.within;
  takes = tt;
}

pub returns-in-Err : goal.returns-in-Err
returns-in-Err c = record {
  exact = near-refused c.args.self.now.cost c.args.query.now c.as_bytes.result.now c.in-Err.status
      (c.as_bytes.ensures.value ∙ c.name.ensures.exact) c.in-Err.ensures.exact;
  within = tt;
  takes = tt;
}
