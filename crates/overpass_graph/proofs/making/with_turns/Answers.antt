-- The map of its parts, with the tags of routes.
use Rattle.std.proofs.Common.{◌<◌, ◌^◌, sym, subst, arith}
use Rattle.map_tables.specs.Draft.{segments_in}
use Rattle.overpass_graph.specs.Made.{IsMade, map_value}
use Rattle.overpass_graph.specs.Maps.{IsMapOf}
use Rattle.overpass_graph.proofs.MakingLemmas.{made, is_map}
use Rattle.overpass_graph.proofs.making.with_turns.Goals as goal

-- the parts fit
pub invariant_of-result : goal.invariant_of-result
invariant_of-result c =
    let few : segments_in c.args.tables.draft.ways < 2 ^ 32 = omega (arith, c.segments-segments.ensures.value) in
    subst (λ h. IsMade h.draft.nodes h.draft.ways c.args.order.places.items c.args.order.numbers.items c.args.links c.args.turns)
    (sym c.in-Ok.ensures.value)
    (made c.args.tables.draft c.args.order.places.items c.args.order.numbers.items c.args.links c.args.turns
    c.requires.order c.requires.links c.requires.turns c.requires.distinct c.limits-limits.ensures.distinct.ways
    c.read_ids.ensures.fits few)

-- they are the map of the tables
pub returns-in-Ok-clause-exact : goal.returns-in-Ok-clause-exact
returns-in-Ok-clause-exact c =
    subst (λ h. IsMapOf c.args.tables.draft (map_value h.draft.nodes h.draft.ways c.args.order.places.items c.args.links c.args.turns))
    (sym c.in-Ok.ensures.value)
    (is_map c.args.tables.draft c.args.order.places.items c.args.order.numbers.items c.args.links c.args.turns
    c.requires.order c.requires.links c.requires.turns)
