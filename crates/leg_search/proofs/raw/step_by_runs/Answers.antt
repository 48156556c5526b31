use Rattle.std.proofs.Common.{◌≢◌, subst, sym}
use Rattle.bike_space.specs.Tasks.{Task}
use Rattle.item_list.specs.Turns.{Says}
use Rattle.junction_runs.proofs.CallerLemmas.{leg-for-runs}
use Rattle.junction_runs.specs.Lawful.{IsForRuns}
use Rattle.junction_runs.specs.RunAnswers.{AnswersByRuns}
use Rattle.junction_runs.specs.RunRules.{run_rules}
use Rattle.space_search.specs.Outcome.{Answers}
use Rattle.space_search.specs.View.{view}
use Rattle.leg_search.proofs.AnswerLemmas.{by-runs}
use Rattle.leg_search.proofs.raw.step_by_runs.Goals as goal

pub new-runs-requires : goal.new-runs-requires
new-runs-requires g c =
    let space = c.args.space.now in
    record {
      over = subst (λ r. IsForRuns r) (sym (g.met.S.LegSpace.searches space))
          (leg-for-runs (g.S.LegSpace.task space) (g.met.S.LegSpace.lawful space));
    }

pub walk_outcome-requires : goal.walk_outcome-requires
walk_outcome-requires g c =
    let limit = (view c.args.search.now).limit in
    let rules = run_rules (g.S.Space.rules c.new-runs.result.space.now) in
    record { answers = (limit, subst (Says (λ _. Unit {0}) (Answers rules limit)) c.in-Done.is c.in_ok-settled.ensures.answers) }

pub returns-in_ok-told-in-Done-clause-answers : goal.returns-in_ok-told-in-Done-clause-answers
returns-in_ok-told-in-Done-clause-answers g c =
    let limit = (view c.args.search.now).limit in
    let rules = run_rules (g.S.Space.rules c.new-runs.result.space.now) in
    let answers = subst (Says (λ _. Unit {0}) (Answers rules limit)) c.in-Done.is c.in_ok-settled.ensures.answers in
    let told = c.in_ok-told-in-Done.told in
    by-runs (g.S.LegSpace.task c.args.space.now) limit told
    (subst (λ s. let task : Task = g.S.LegSpace.task s in AnswersByRuns task.leg task.used task.radius limit told) c.new-runs.ensures.space
    (c.in_ok-told-in-Done.ensures.told limit c.requires.of.small answers
    (subst (λ s. let task : Task = g.S.LegSpace.task s in task.leg.start ≢ task.leg.target) (sym c.new-runs.ensures.space) c.requires.differ)))
