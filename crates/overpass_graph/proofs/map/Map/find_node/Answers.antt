use Rattle.std.proofs.Common.{◌∙◌, ◌<◌, sym, ap, Some, get_or, length, option_map, arith, rules}
use mir.Val.{SFits}
use mir.Syntax.{w64}
use Rattle.std.proofs.lemmas.Int.{to_z-of_z}
use Rattle.std.proofs.lemmas.List.{get_or_read}
use Rattle.overpass_graph.proofs.MapLemmas.{node-found}
use Rattle.overpass_graph.proofs.map.Map.find_node.Goals as goal

pub returns-in-None : goal.returns-in-None
returns-in-None c =
    let found = node-found _ _ _ _ _ _ c.args.self.now c.self.invariant c.self.view_is c.args.id in
    let fits : SFits w64 c.args.id = search rules in
    let here = simp (to_z-of_z, fits) at c.in-None.ensures.value in
    record { value = ap (option_map (λ p. get_or c.self.inside.order.numbers.items p 0)) here ∙ sym found }

pub returns-in-Some : goal.returns-in-Some
returns-in-Some c =
    let found = node-found _ _ _ _ _ _ c.args.self.now c.self.invariant c.self.view_is c.args.id in
    let below : c.in-Some.place < length c.self.inside.order.numbers.items =
    omega (arith, c.in-Some.ensures.fits, c.self.invariant.order.numbers_length) in
    let read = get_or_read c.self.inside.order.numbers.items c.in-Some.place c.index.result.now below c.index.ensures 0 in
    let fits : SFits w64 c.args.id = search rules in
    let here = simp (to_z-of_z, fits) at c.in-Some.ensures.value in
    record { value = ap Some read ∙ ap (option_map (λ p. get_or c.self.inside.order.numbers.items p 0)) here ∙ sym found }
