use Rattle.std.proofs.Common.{ℕ, [], ◌∷◌, ◌++◌, subst}
use Rattle.space_search.specs.Limits.{IsUnspent}
use Rattle.space_search.specs.declared.outcome.Outcome.{Outcome}
use Rattle.space_search.specs.Turns.{EndsSearch}
use Rattle.space_search.specs.View.{view}
use Rattle.space_search.proofs.TurnsLemmas.{least-run, readable-found}
use Rattle.space_search.proofs.search.Search.outcome.Goals as goal

pub returns-in_ok-choices-in-Found-clause-answers :
    goal.returns-in_ok-choices-in-Found-clause-answers
returns-in_ok-choices-in-Found-clause-answers g c rules of ends =
    least-run rules c.args.self.now of c.in-Found.label (subst (EndsSearch rules (view c.args.self.now)) c.in-Found.is ends)
    c.in_ok-choices-in-Found.choices c.cost_of-cost.result c.in_ok-choices-in-Found.ensures.exact c.cost_of-cost.ensures.exact

pub choices-requires : goal.choices-requires
choices-requires g c =
    record { readable = readable-found c.args.self.now c.args.end c.in-Found.label c.in-Found.is c.requires.ends }

pub cost_of-cost-requires : goal.cost_of-cost-requires
cost_of-cost-requires g c =
    record { readable = readable-found c.args.self.now c.args.end c.in-Found.label c.in-Found.is c.requires.ends }

pub returns-in-NoWay-clause-answers : goal.returns-in-NoWay-clause-answers
returns-in-NoWay-clause-answers g c rules of ends =
    (subst (EndsSearch rules (view c.args.self.now)) c.in-NoWay.is ends).unreachable

pub returns-in-Budget-clause-answers : goal.returns-in-Budget-clause-answers
returns-in-Budget-clause-answers g c rules of ends =
    let e = subst (EndsSearch rules (view c.args.self.now)) c.in-Budget.is ends in
    ((view c.args.self.now).settled ++ e.taken ∷ [], e.spent)

pub returns-in-Budget-clause-unspent : goal.returns-in-Budget-clause-unspent
returns-in-Budget-clause-unspent g c unspent = subst (λ (e : Outcome ℕ). IsUnspent e) c.in-Budget.is unspent
