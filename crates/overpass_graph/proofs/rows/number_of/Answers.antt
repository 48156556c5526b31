-- The number of the node of an id.
use Rattle.std.proofs.Common.{◌∙◌, ◌<◌, sym, ap, subst, Some, get_or, length, option_map, arith, rules}
use mir.Val.{SFits}
use mir.Syntax.{w64}
use Rattle.std.proofs.lemmas.Int.{to_z-of_z}
use Rattle.std.proofs.lemmas.List.{get_or_read}
use Rattle.overpass_graph.proofs.NodeLemmas.{number_found}
use Rattle.overpass_graph.proofs.rows.number_of.Goals as goal

-- there is none
pub returns-in-None : goal.returns-in-None
returns-in-None c =
    let found = number_found c.args.tables.now.draft.nodes _ _ c.requires.distinct c.requires.order c.args.id in
    let fits : SFits w64 c.args.id = search rules in
    let here = simp (to_z-of_z, fits) at c.in-None.ensures.value in
    record { value = ap (option_map (λ p. get_or c.args.order.now.numbers.items p 0)) here ∙ sym found; within = tt }

-- it has a place
pub returns-in-Some : goal.returns-in-Some
returns-in-Some c =
    let found = number_found c.args.tables.now.draft.nodes _ _ c.requires.distinct c.requires.order c.args.id in
    let below : c.in-Some.place < length c.args.order.now.numbers.items =
    omega (arith, c.in-Some.ensures.fits, c.requires.order.numbers_length) in
    let read = get_or_read c.args.order.now.numbers.items c.in-Some.place c.index.result.now below c.index.ensures 0 in
    let fits : SFits w64 c.args.id = search rules in
    let here = simp (to_z-of_z, fits) at c.in-Some.ensures.value in
    record {
      value = ap Some read ∙ ap (option_map (λ p. get_or c.args.order.now.numbers.items p 0)) here ∙ sym found;
      within = subst (λ n. n < length c.args.tables.now.draft.nodes) (sym read)
          (c.requires.order.number_in c.in-Some.place c.in-Some.ensures.fits);
    }
