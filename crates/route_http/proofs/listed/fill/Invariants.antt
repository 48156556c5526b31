use Rattle.std.proofs.Common.{◌≡◌, length, map}
use Rattle.route_http.specs.List.{items_of, parts_of}
use Rattle.route_http.proofs.listed.fill.Given as goal

abbrev pub invariant-items : goal.invariant-items
invariant-items g l =
    items_of g.T.Listed.read l.key l.most (map g.T.Listed.seen l.items) (parts_of l.mark l.rest)
    ≡ items_of g.T.Listed.read l.key l.most (map g.T.Listed.seen l.fn.items) (parts_of l.mark l.text)

abbrev pub decreases-items : goal.decreases-items
decreases-items g l = length l.rest
