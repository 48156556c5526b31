use Rattle.std.proofs.Common.{ℕ, subst, arith, ◌∙◌}
use Rattle.std.proofs.lemmas.Result.{IfOk-weaker}
use Rattle.space_search.specs.Limits.{IsUnspentTurn}
use Rattle.space_search.specs.Outcome.{Answers}
use Rattle.item_list.specs.Turns.{Says}
use Rattle.space_search.specs.Turns.{EndsSearch, IsClosedSoFar}
use Rattle.space_search.specs.View.{view}
use Rattle.space_search.proofs.finding.least.Goals as goal

pub search-init : goal.search-init
search-init g c =
    record { of = c.new-search.ensures.of (g.S.Space.rules c.args.space.now); bounds = c.requires.bounds; limit = c.new-search.ensures.limit }

pub outcome-requires : goal.outcome-requires
outcome-requires g c =
    let rules = g.S.Space.rules c.args.space.now in
    let after = view c.turn.new.self in
    let turn = c.in_ok-turn.ensures in
    record { ends = (rules, turn.of, subst (Says (λ _. IsClosedSoFar rules after) (EndsSearch rules after)) c.in-Done.is turn.ends) }

pub returns-in-Done-clause-answers : goal.returns-in-Done-clause-answers
returns-in-Done-clause-answers g c =
    let rules = g.S.Space.rules c.args.space.now in
    let after = view c.turn.new.self in
    let turn = c.in_ok-turn.ensures in
    let ends = subst (Says (λ _. IsClosedSoFar rules after) (EndsSearch rules after)) c.in-Done.is turn.ends in
    IfOk-weaker c.outcome.result _ (Answers rules c.args.limit)
    (λ outcome answers. subst (λ (n : ℕ). Answers rules n outcome) (turn.kept.limit ∙ c.search.invariant.limit)
    (answers rules turn.of ends))
    c.outcome.ensures.answers

pub returns-in-Done-clause-enough : goal.returns-in-Done-clause-enough
returns-in-Done-clause-enough g c most few enough =
    c.outcome.ensures.unspent
    (subst IsUnspentTurn c.in-Done.is (c.in_ok-turn.ensures.enough most few (omega (arith, enough, c.search.invariant.limit))))
