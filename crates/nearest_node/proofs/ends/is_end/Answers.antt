use Rattle.std.proofs.Common.{◌<◌, length, get_or, refl, sym, subst, ap, arith, List, ℕ}
use Rattle.overpass_graph.specs.Maps.{roads_of}
use Rattle.overpass_graph.specs.Roads.{out_links}
use Rattle.overpass_graph.proofs.CallerLemmas.{out-sound}
use Rattle.nearest_node.proofs.EndLemmas.{IsOpenEitherWay, end-found, end-none}
use Rattle.nearest_node.proofs.ends.is_end.Goals as goal

pub is_open_either_way-requires-clause-in_range : goal.is_open_either_way-requires-clause-in_range
is_open_either_way-requires-clause-in_range g c =
    let roads = roads_of c.args.map.now in
    let leaving = c.out_links-leaving.ensures.value in
    let below : c.links.place < length (out_links roads c.args.node) =
    subst (λ ls. c.links.place < length ls) leaving (omega (arith, c.links-test.true)) in
    subst (λ ls. get_or ls c.links.place 0 < length c.args.map.now.links) (sym leaving) (out-sound roads c.args.node c.links.place below).0

pub returns-then-is_open_either_way-clause-found : goal.returns-then-is_open_either_way-clause-found
returns-then-is_open_either_way-clause-found g c yes_is =
    let roads = roads_of c.args.map.now in
    let is_open = (g.O.OpenLinks.opens c.args.passages.now).is_open in
    let leaving = c.out_links-leaving.ensures.value in
    let below : c.links.place < length (out_links roads c.args.node) =
    subst (λ ls. c.links.place < length ls) leaving (omega (arith, c.links-test.true)) in
    end-found roads is_open c.args.node c.links.place c.requires.lawful.roads below
    (subst (λ ls. IsOpenEitherWay is_open (get_or ls c.links.place 0)) leaving (c.if-is_open_either_way.ensures.found refl))

pub returns-clause-only : goal.returns-clause-only
returns-clause-only g c at =
    let roads = roads_of c.args.map.now in
    let is_open = (g.O.OpenLinks.opens c.args.passages.now).is_open in
    let many = ap (λ (ls : List ℕ). length ls) c.out_links-leaving.ensures.value in
    absurd (end-none roads is_open c.args.node c.requires.lawful.roads
    (λ j below. c.links.invariant j (omega (arith, below, many, c.links-test.false))) at)
