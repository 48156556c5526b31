use Rattle.std.proofs.Common.{ap, sym, ◌∙◌, subst}
use Rattle.space_search.specs.Outcome.{Answers}
use Rattle.bike_space.specs.Runs.{IsSomeRun}
use Rattle.bike_space.specs.Tasks.{rules_of, walk_by}
use Rattle.bike_space.proofs.LeastLemmas.{no-walk}
use Rattle.bike_space.proofs.SpentLemmas.{spent-bounded}
use Rattle.bike_space.proofs.TellLemmas.{run-found}
use Rattle.bike_space.proofs.finding.walk_outcome.Goals as goal

pub walk_of-requires : goal.walk_of-requires
walk_of-requires g c =
    let space = c.args.space.now in
    let task = g.S.LegSpace.task space in
    let is = subst (λ r. Answers r c.requires.answers.0 c.args.outcome) (g.met.S.LegSpace.searches space) c.requires.answers.1 in
    let found = subst (Answers (rules_of task) c.requires.answers.0) c.in-Found.is is in
    let reaches = found.0.reaches in
    record {
      run = subst (IsSomeRun task) (sym c.as_slice.ensures.value)
          (record { end = reaches.end; cost = c.in-Found.run'.cost; run = reaches.run });
    }

pub returns-in_ok-links-in-Found-clause-told : goal.returns-in_ok-links-in-Found-clause-told
returns-in_ok-links-in-Found-clause-told g c limit few is differ =
    let space = c.args.space.now in
    let task = g.S.LegSpace.task space in
    let told = subst (λ r. Answers r limit c.args.outcome) (g.met.S.LegSpace.searches space) is in
    run-found task (g.met.S.LegSpace.lawful space) differ limit few c.in-Found.run' c.in_ok-links-in-Found.links
    (subst (Answers (rules_of task) limit) c.in-Found.is told)
    (c.in_ok-links-in-Found.ensures.walk ∙ ap (walk_by task.leg) c.as_slice.ensures.value)

pub returns-in-NoWay-clause-told : goal.returns-in-NoWay-clause-told
returns-in-NoWay-clause-told g c limit few is differ =
    let space = c.args.space.now in
    let task = g.S.LegSpace.task space in
    let told = subst (λ r. Answers r limit c.args.outcome) (g.met.S.LegSpace.searches space) is in
    no-walk task differ (subst (Answers (rules_of task) limit) c.in-NoWay.is told)

pub returns-in-Budget-clause-told : goal.returns-in-Budget-clause-told
returns-in-Budget-clause-told g c limit few is differ =
    let space = c.args.space.now in
    let task = g.S.LegSpace.task space in
    let told = subst (λ r. Answers r limit c.args.outcome) (g.met.S.LegSpace.searches space) is in
    let spent = subst (Answers (rules_of task) limit) c.in-Budget.is told in λ all.
    (_, spent-bounded task (g.met.S.LegSpace.lawful space) limit spent.0 spent.1 differ all)
