use Rattle.route_run.specs.Serving.{IsServeOutcome as outcome}
use Rattle.route_run.proofs.server.serve_answer.Goals as goal

pub returns-in-Ok : goal.returns-in-Ok
returns-in-Ok g c = record { exact = outcome.served {between = c.take_offer.new.notes} c.in-Ok.ensures.exact c.serve_at.ensures.exact }
