use Rattle.std.proofs.Common.{◌∙◌, ap}
use Rattle.route_ready.specs.declared.ready.Ready.{Ready}
use Rattle.session_answers.proofs.guides.guided.Goals as goal

pub returns-clause-guide : goal.returns-clause-guide
returns-clause-guide c = record {
  shared = c.in_ok-guide.guide;
  has = ap (λ (r : Ready). r.guide) c.in_ok-new.ensures.ok ∙ c.in_ok-ready.ensures.guide;
  is = c.in_ok-guide.ensures.ok;
}
