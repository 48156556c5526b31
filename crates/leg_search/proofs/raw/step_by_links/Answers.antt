use Rattle.std.proofs.Common.{subst}
use Rattle.item_list.specs.Turns.{Says}
use Rattle.space_search.specs.Outcome.{Answers}
use Rattle.space_search.specs.View.{view}
use Rattle.leg_search.proofs.AnswerLemmas.{by-links}
use Rattle.leg_search.proofs.raw.step_by_links.Goals as goal

pub walk_outcome-requires : goal.walk_outcome-requires
walk_outcome-requires g c =
    let limit = (view c.args.search.now).limit in
    let answers = subst (Says (λ _. Unit {0}) (Answers (g.S.Space.rules c.args.space.now) limit)) c.in-Done.is c.in_ok-settled.ensures.answers in
    record { answers = (limit, answers) }

pub returns-in_ok-told-in-Done-clause-answers : goal.returns-in_ok-told-in-Done-clause-answers
returns-in_ok-told-in-Done-clause-answers g c =
    let limit = (view c.args.search.now).limit in
    let answers = subst (Says (λ _. Unit {0}) (Answers (g.S.Space.rules c.args.space.now) limit)) c.in-Done.is c.in_ok-settled.ensures.answers in
    by-links (g.S.LegSpace.task c.args.space.now) limit c.in_ok-told-in-Done.told
    (c.in_ok-told-in-Done.ensures.told limit c.requires.of.small answers c.requires.differ)
