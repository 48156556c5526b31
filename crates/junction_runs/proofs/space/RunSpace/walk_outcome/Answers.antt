use Rattle.std.proofs.Common.{◌≡◌, ap, sym, ◌∙◌, subst}
use Rattle.space_search.specs.Outcome.{Answers}
use Rattle.bike_space.specs.Tasks.{rules_of, walk_by}
use Rattle.junction_runs.specs.Chosen.{IsSomeRun}
use Rattle.junction_runs.specs.RunRules.{run_rules}
use Rattle.junction_runs.specs.Written.{written_of}
use Rattle.junction_runs.proofs.LegLemmas.{no-runs}
use Rattle.junction_runs.proofs.SpentLemmas.{shown-runs, spent-bounded}
use Rattle.junction_runs.proofs.TellLemmas.{runs-found}
use Rattle.junction_runs.proofs.space.RunSpace.walk_outcome.Goals as goal

pub link_of-requires : goal.link_of-requires
link_of-requires g c =
    let space = c.args.self.now.space.now in
    let rules = g.S.Space.rules space in
    let is = subst (Answers (run_rules rules) c.requires.answers.0) c.in-Found.is c.requires.answers.1 in
    let reaches = is.0.reaches in
    record {
      run = subst (IsSomeRun rules) (sym c.as_slice.ensures.value)
          (record { end = reaches.end; cost = c.in-Found.run'.cost; run = reaches.run });
    }

pub returns-in_ok-links-in-Found-clause-told : goal.returns-in_ok-links-in-Found-clause-told
returns-in_ok-links-in-Found-clause-told g c limit few is differ =
    let space = c.args.self.now.space.now in
    let task = g.S.LegSpace.task space in
    let searches = g.met.S.LegSpace.searches space in
    let told = subst (λ r. Answers (run_rules r) limit c.args.outcome) searches is in (
      runs-found task (g.met.S.LegSpace.lawful space) differ limit few c.in-Found.run' c.in_ok-links-in-Found.links
          (subst (Answers (run_rules (rules_of task)) limit) c.in-Found.is told)
          (subst (λ r. c.in_ok-links-in-Found.links ≡ walk_by task.leg (written_of r c.in-Found.run'.choices)) searches
          (c.in_ok-links-in-Found.ensures.walk ∙ ap (λ w. walk_by task.leg (written_of (g.S.Space.rules space) w)) c.as_slice.ensures.value)),
      c.in_ok-links-in-Found.ensures.runs,
    )

pub returns-in-NoWay-clause-told : goal.returns-in-NoWay-clause-told
returns-in-NoWay-clause-told g c limit few is differ =
    let space = c.args.self.now.space.now in
    let task = g.S.LegSpace.task space in
    let told = subst (λ r. Answers (run_rules r) limit c.args.outcome) (g.met.S.LegSpace.searches space) is in
    no-runs task differ (subst (Answers (run_rules (rules_of task)) limit) c.in-NoWay.is told)

pub returns-in-Budget-clause-told : goal.returns-in-Budget-clause-told
returns-in-Budget-clause-told g c limit few is differ =
    let space = c.args.self.now.space.now in
    let task = g.S.LegSpace.task space in
    let lawful = g.met.S.LegSpace.lawful space in
    let told = subst (λ r. Answers (run_rules r) limit c.args.outcome) (g.met.S.LegSpace.searches space) is in
    let spent = subst (Answers (run_rules (rules_of task)) limit) c.in-Budget.is told in
    λ all. (
      _,
      record {
        spent = spent-bounded task lawful limit spent.0 spent.1 differ all;
        runs = shown-runs task lawful limit spent.0 spent.1 differ;
      },
    )
