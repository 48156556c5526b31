use Rattle.std.proofs.Common.{◌≡◌, ◌+ℤ◌, ◌*ℤ◌, SFits, refl}
use Rattle.std.specs.Int.{w128}
use Rattle.std.proofs.lemmas.Int.{to_z-of_z}
use Rattle.cost_model.specs.Parts.{distance_of}
use Rattle.cost_model.proofs.NumberLemmas.{cost-fits, cost-wide}
use Rattle.cost_model.proofs.LinkLemmas.{steps_are, prices_fit, price-is, parts-are}
use Rattle.cost_model.proofs.links.entered.Goals as goal

pub distance_part-requires-clause-down : goal.distance_part-requires-clause-down
distance_part-requires-clause-down c =
    let s = steps_are _ _ c.args.pair c.descent-down.ensures.prices c.requires.facts c.requires.held _ _ c.descent-down.ensures.exact
    c.ascent-up.ensures.exact in
    simp (to_z-of_z, s.down_fits.weight) s.down_weight

pub distance_part-requires-clause-up : goal.distance_part-requires-clause-up
distance_part-requires-clause-up c =
    let s = steps_are _ _ c.args.pair c.descent-down.ensures.prices c.requires.facts c.requires.held _ _ c.descent-down.ensures.exact
    c.ascent-up.ensures.exact in
    simp (to_z-of_z, s.up_fits.weight) s.up_weight

pub paid-requires-clause-paid : goal.paid-requires-clause-paid
paid-requires-clause-paid c =
    let s = steps_are _ _ c.args.pair c.descent-down.ensures.prices c.requires.facts c.requires.held _ _ c.descent-down.ensures.exact
    c.ascent-up.ensures.exact in
    simp (to_z-of_z, s.down_fits.paid) s.down_fits.size

pub paid-requires-2-clause-paid : goal.paid-requires-2-clause-paid
paid-requires-2-clause-paid c =
    let s = steps_are _ _ c.args.pair c.descent-down.ensures.prices c.requires.facts c.requires.held _ _ c.descent-down.ensures.exact
    c.ascent-up.ensures.exact in
    simp (to_z-of_z, s.up_fits.paid) s.up_fits.size

pub overflow_add-parts : goal.overflow_add-parts
overflow_add-parts c =
    let s = steps_are _ _ c.args.pair c.descent-down.ensures.prices c.requires.facts c.requires.held _ _ c.descent-down.ensures.exact
    c.ascent-up.ensures.exact in
    let a = price-is _ c.args.rates.now.down_rate _ _ s.down_fits c.down_rate.ensures.value c.paid.ensures.exact in
    let b = price-is _ c.args.rates.now.up_rate _ _ s.up_fits c.up_rate.ensures.value c.paid-2.ensures.exact in
    rw (a, b) (simp (to_z-of_z, s.down_fits.wide, s.up_fits.wide)
    (prices_fit (c.descent-down.result.paid *ℤ c.args.rates.now.down_rate) (c.ascent-up.result.paid *ℤ c.args.rates.now.up_rate)
    s.down_fits.price s.up_fits.price))

pub returns-clause-carry : goal.returns-clause-carry
returns-clause-carry c =
    let s = steps_are _ _ c.args.pair c.descent-down.ensures.prices c.requires.facts c.requires.held _ _ c.descent-down.ensures.exact
    c.ascent-up.ensures.exact in
    simp (to_z-of_z, s.down_fits.e, s.up_fits.e) (rw (s.down, s.up) refl)

pub returns-clause-parts : goal.returns-clause-parts
returns-clause-parts c =
    let s = steps_are _ _ c.args.pair c.descent-down.ensures.prices c.requires.facts c.requires.held _ _ c.descent-down.ensures.exact
    c.ascent-up.ensures.exact in
    let a = price-is _ c.args.rates.now.down_rate _ _ s.down_fits c.down_rate.ensures.value c.paid.ensures.exact in
    let b = price-is _ c.args.rates.now.up_rate _ _ s.up_fits c.up_rate.ensures.value c.paid-2.ensures.exact in
    let charge = cost-fits _ c.requires.facts.charge in
    let node = cost-wide _ c.requires.facts.charge in
    let distance : SFits w128 c.distance_part.result = record { sfits = c.distance_part.type_inv } in
    let one : SFits w128 c.paid.result = record { sfits = c.paid.type_inv } in
    let other : SFits w128 c.paid-2.result = record { sfits = c.paid-2.type_inv } in
    let sum : SFits w128 (c.paid.result +ℤ c.paid-2.result) =
    rw (a, b) (prices_fit (c.descent-down.result.paid *ℤ c.args.rates.now.down_rate)
    (c.ascent-up.result.paid *ℤ c.args.rates.now.up_rate) s.down_fits.price s.up_fits.price) in
    let is : c.distance_part.result ≡ distance_of c.args.facts.now c.descent-down.result.weight c.ascent-up.result.weight =
    simp (to_z-of_z, s.down_fits.weight, s.up_fits.weight) at c.distance_part.ensures.exact in
    simp (to_z-of_z, distance, c.ranges.turn, c.ranges.initial, charge, node, one, other, sum)
    (parts-are c.args.rates.now c.args.facts.now c.args.pair _ _ _ _ _ (c.paid.result +ℤ c.paid-2.result) s.down s.up is (rw (a, b) refl))
