use Rattle.std.proofs.Common.{subst, sym}
use Rattle.item_list.specs.Turns.{Says}
use Rattle.space_search.specs.Turns.{EndsSearch, IsClosedSoFar}
use Rattle.space_search.specs.View.{view}
use Rattle.map_cases.proofs.timed.searching.settle.Goals as goal

pub search-init : goal.search-init
search-init g c =
    record { of = c.new-search.ensures.of (g.S.Space.rules c.args.space.now); bounds = c.requires.bounds; limit = c.new-search.ensures.limit }

pub end_of-requires : goal.end_of-requires
end_of-requires g c =
    let rules = g.S.Space.rules c.args.space.now in
    let after = view c.turn.new.self in
    let turn = c.in_ok-turn.ensures in
    record { ends = (rules, turn.of, subst (Says (λ _. IsClosedSoFar rules after) (EndsSearch rules after)) c.in-Done.is turn.ends) }

pub returns-in-Done : goal.returns-in-Done
returns-in-Done g c =
    let rules = g.S.Space.rules c.args.space.now in
    let after = view c.turn.new.self in
    let ends = subst (Says (λ _. IsClosedSoFar rules after) (EndsSearch rules after)) c.in-Done.is c.in_ok-turn.ensures.ends in
    record { last = (after, subst (EndsSearch rules after) (sym c.end_of.ensures.last) ends) }
