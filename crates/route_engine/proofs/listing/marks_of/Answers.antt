use Rattle.std.proofs.lemmas.List.Elements.{Contains-get_or}
use Rattle.cost_table.specs.Reaches.{cost_in}
use Rattle.route_engine.proofs.ListingLemmas.{found-below, marked-all}
use Rattle.route_engine.proofs.listing.marks_of.Goals as goal

pub mark_all-requires-clause-below : goal.mark_all-requires-clause-below
mark_all-requires-clause-below c =
    let found = c.nodes-found.result.now in
    let exact = c.nodes-found.ensures.exact in
    λ place inside. found-below (cost_in c.args.reach.now) found (λ node. (exact node).0) (λ node. (exact node).1) c.args.nodes c.requires.below place
    (Contains-get_or found place 0 inside)

pub returns-clause-marked : goal.returns-clause-marked
returns-clause-marked c =
    let found = c.nodes-found.result.now in
    let exact = c.nodes-found.ensures.exact in
    marked-all (cost_in c.args.reach.now) found (λ node. (exact node).0) (λ node. (exact node).1) c.mark_all.new.marks.items
    c.mark_all.ensures.marked
