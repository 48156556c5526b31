use Rattle.std.proofs.Common.{Bool, sym, subst}
use Rattle.std.specs.Prelude.{IfOk}
use Rattle.space_search.specs.Searches.{IsSearchOf}
use Rattle.space_search.specs.View.{view}
use Rattle.leg_search.specs.Steps.{AnswersStep}
use Rattle.leg_search.proofs.AnswerLemmas.{links-is, runs-is}
use Rattle.leg_search.proofs.raw.step_on.Goals as goal

pub step_by_runs-requires-clause-of : goal.step_by_runs-requires-clause-of
step_by_runs-requires-clause-of g c =
    let space = c.args.space.now in
    subst (λ r. IsSearchOf r c.args.search.now)
    (runs-is (g.S.Space.rules space) (g.S.LegSpace.task space) (g.met.S.LegSpace.searches space) c.args.runs c.if-runs.true) c.requires.of

pub returns-then-runs-clause-of : goal.returns-then-runs-clause-of
returns-then-runs-clause-of g c =
    let space = c.args.space.now in
    subst (λ r. IsSearchOf r c.step_by_runs.new.search)
    (sym (runs-is (g.S.Space.rules space) (g.S.LegSpace.task space) (g.met.S.LegSpace.searches space) c.args.runs c.if-runs.true))
    c.step_by_runs.ensures.of

pub returns-then-runs-clause-answers : goal.returns-then-runs-clause-answers
returns-then-runs-clause-answers g c =
    let task = g.S.LegSpace.task c.args.space.now in
    subst (λ (b : Bool). IfOk c.step_by_runs.result (AnswersStep task (view c.args.search.now).limit b)) (sym c.if-runs.true)
    c.step_by_runs.ensures.answers

pub step_by_links-requires-clause-of : goal.step_by_links-requires-clause-of
step_by_links-requires-clause-of g c =
    let space = c.args.space.now in
    subst (λ r. IsSearchOf r c.args.search.now)
    (links-is (g.S.Space.rules space) (g.S.LegSpace.task space) (g.met.S.LegSpace.searches space) c.args.runs c.if-runs.false) c.requires.of

pub returns-else-runs-clause-of : goal.returns-else-runs-clause-of
returns-else-runs-clause-of g c =
    let space = c.args.space.now in
    subst (λ r. IsSearchOf r c.step_by_links.new.search)
    (sym (links-is (g.S.Space.rules space) (g.S.LegSpace.task space) (g.met.S.LegSpace.searches space) c.args.runs c.if-runs.false))
    c.step_by_links.ensures.of

pub returns-else-runs-clause-answers : goal.returns-else-runs-clause-answers
returns-else-runs-clause-answers g c =
    let task = g.S.LegSpace.task c.args.space.now in
    subst (λ (b : Bool). IfOk c.step_by_links.result (AnswersStep task (view c.args.search.now).limit b)) (sym c.if-runs.false)
    c.step_by_links.ensures.answers
