use Rattle.std.proofs.Common.{◌≡◌, ◌+ℤ◌, ◌*ℤ◌, Some, SFits, refl}
use Rattle.std.specs.Int.{w128}
use Rattle.std.proofs.lemmas.Int.{to_z-of_z}
use Rattle.cost_model.specs.Parts.{distance_of}
use Rattle.cost_model.specs.Walks.{pair_of}
use Rattle.cost_model.proofs.NumberLemmas.{cost-fits, cost-wide}
use Rattle.cost_model.proofs.LinkLemmas.{steps_are, prices_fit, price-is}
use Rattle.cost_model.proofs.PaidLemmas.{initial-small, parts-hold, turn-small}
use Rattle.cost_model.proofs.PriceLemmas.{parts-after, paid-parts, twice-parts, cost-parts}
use Rattle.cost_model.proofs.links.enter_priced.Goals as goal

pub distance_part-requires-clause-down : goal.distance_part-requires-clause-down
distance_part-requires-clause-down c =
    let s = steps_are _ _ (pair_of c.args.carry.now) c.descent-down.ensures.prices c.requires.facts c.requires.held _ _
    c.descent-down.ensures.exact c.ascent-up.ensures.exact in
    simp (to_z-of_z, s.down_fits.weight) s.down_weight

pub distance_part-requires-clause-up : goal.distance_part-requires-clause-up
distance_part-requires-clause-up c =
    let s = steps_are _ _ (pair_of c.args.carry.now) c.descent-down.ensures.prices c.requires.facts c.requires.held _ _
    c.descent-down.ensures.exact c.ascent-up.ensures.exact in
    simp (to_z-of_z, s.up_fits.weight) s.up_weight

pub paid-requires-clause-paid : goal.paid-requires-clause-paid
paid-requires-clause-paid c =
    let s = steps_are _ _ (pair_of c.args.carry.now) c.descent-down.ensures.prices c.requires.facts c.requires.held _ _
    c.descent-down.ensures.exact c.ascent-up.ensures.exact in
    simp (to_z-of_z, s.down_fits.paid) s.down_fits.size

pub paid-requires-2-clause-paid : goal.paid-requires-2-clause-paid
paid-requires-2-clause-paid c =
    let s = steps_are _ _ (pair_of c.args.carry.now) c.descent-down.ensures.prices c.requires.facts c.requires.held _ _
    c.descent-down.ensures.exact c.ascent-up.ensures.exact in
    simp (to_z-of_z, s.up_fits.paid) s.up_fits.size

pub overflow_add-parts : goal.overflow_add-parts
overflow_add-parts c =
    let s = steps_are _ _ (pair_of c.args.carry.now) c.descent-down.ensures.prices c.requires.facts c.requires.held _ _
    c.descent-down.ensures.exact c.ascent-up.ensures.exact in
    let a = price-is _ c.args.rates.now.down_rate _ _ s.down_fits c.down_rate.ensures.value c.paid.ensures.exact in
    let b = price-is _ c.args.rates.now.up_rate _ _ s.up_fits c.up_rate.ensures.value c.paid-2.ensures.exact in
    let sum : SFits w128 (c.paid.result +ℤ c.paid-2.result) =
    rw (a, b) (prices_fit (c.descent-down.result.paid *ℤ c.args.rates.now.down_rate)
    (c.ascent-up.result.paid *ℤ c.args.rates.now.up_rate) s.down_fits.price s.up_fits.price) in
    let one : SFits w128 c.paid.result = record { sfits = c.paid.type_inv } in
    let other : SFits w128 c.paid-2.result = record { sfits = c.paid-2.type_inv } in
    simp (to_z-of_z, one, other) sum

pub price-requires-clause-paid : goal.price-requires-clause-paid
price-requires-clause-paid c =
    let s = steps_are _ _ (pair_of c.args.carry.now) c.descent-down.ensures.prices c.requires.facts c.requires.held _ _
    c.descent-down.ensures.exact c.ascent-up.ensures.exact in
    let a = price-is _ c.args.rates.now.down_rate _ _ s.down_fits c.down_rate.ensures.value c.paid.ensures.exact in
    let b = price-is _ c.args.rates.now.up_rate _ _ s.up_fits c.up_rate.ensures.value c.paid-2.ensures.exact in
    let sum : SFits w128 (c.paid.result +ℤ c.paid-2.result) =
    rw (a, b) (prices_fit (c.descent-down.result.paid *ℤ c.args.rates.now.down_rate)
    (c.ascent-up.result.paid *ℤ c.args.rates.now.up_rate) s.down_fits.price s.up_fits.price) in
    let charge = cost-fits _ c.requires.facts.charge in
    let node = cost-wide _ c.requires.facts.charge in
    let distance : SFits w128 c.distance_part.result = record { sfits = c.distance_part.type_inv } in
    let turn : SFits w128 c.turn.result = record { sfits = c.turn.type_inv } in
    let initial : SFits w128 c.initial.result = record { sfits = c.initial.type_inv } in
    let one : SFits w128 c.paid.result = record { sfits = c.paid.type_inv } in
    let other : SFits w128 c.paid-2.result = record { sfits = c.paid-2.type_inv } in
    let is : c.distance_part.result ≡ distance_of c.args.facts.now c.descent-down.result.weight c.ascent-up.result.weight =
    simp (to_z-of_z, s.down_fits.weight, s.up_fits.weight) at c.distance_part.ensures.exact in
    let parts =
    parts-after c.args.rates.now c.args.last.now c.args.facts.now (pair_of c.args.carry.now) _ _ _ c.turn.result c.initial.result
    (c.paid.result +ℤ c.paid-2.result) c.turn.ensures.exact c.initial.ensures.exact s.down s.up is (rw (a, b) refl) in
    let holds =
    parts-hold c.args.rates.now c.args.facts.now (pair_of c.args.carry.now) _ _ c.descent-down.ensures.prices c.requires.facts
    c.requires.held
    (turn-small (Some c.args.last.now) c.args.facts.now c.requires.facts)
    (initial-small (Some c.args.last.now) c.args.facts.now c.requires.facts) in
    simp (to_z-of_z, distance, turn, initial, charge, node, one, other, sum) (paid-parts _ _ parts holds.paid)

pub price-requires-clause-twice : goal.price-requires-clause-twice
price-requires-clause-twice c =
    let s = steps_are _ _ (pair_of c.args.carry.now) c.descent-down.ensures.prices c.requires.facts c.requires.held _ _
    c.descent-down.ensures.exact c.ascent-up.ensures.exact in
    let a = price-is _ c.args.rates.now.down_rate _ _ s.down_fits c.down_rate.ensures.value c.paid.ensures.exact in
    let b = price-is _ c.args.rates.now.up_rate _ _ s.up_fits c.up_rate.ensures.value c.paid-2.ensures.exact in
    let sum : SFits w128 (c.paid.result +ℤ c.paid-2.result) =
    rw (a, b) (prices_fit (c.descent-down.result.paid *ℤ c.args.rates.now.down_rate)
    (c.ascent-up.result.paid *ℤ c.args.rates.now.up_rate) s.down_fits.price s.up_fits.price) in
    let charge = cost-fits _ c.requires.facts.charge in
    let node = cost-wide _ c.requires.facts.charge in
    let distance : SFits w128 c.distance_part.result = record { sfits = c.distance_part.type_inv } in
    let turn : SFits w128 c.turn.result = record { sfits = c.turn.type_inv } in
    let initial : SFits w128 c.initial.result = record { sfits = c.initial.type_inv } in
    let one : SFits w128 c.paid.result = record { sfits = c.paid.type_inv } in
    let other : SFits w128 c.paid-2.result = record { sfits = c.paid-2.type_inv } in
    let is : c.distance_part.result ≡ distance_of c.args.facts.now c.descent-down.result.weight c.ascent-up.result.weight =
    simp (to_z-of_z, s.down_fits.weight, s.up_fits.weight) at c.distance_part.ensures.exact in
    let parts =
    parts-after c.args.rates.now c.args.last.now c.args.facts.now (pair_of c.args.carry.now) _ _ _ c.turn.result c.initial.result
    (c.paid.result +ℤ c.paid-2.result) c.turn.ensures.exact c.initial.ensures.exact s.down s.up is (rw (a, b) refl) in
    let holds =
    parts-hold c.args.rates.now c.args.facts.now (pair_of c.args.carry.now) _ _ c.descent-down.ensures.prices c.requires.facts
    c.requires.held
    (turn-small (Some c.args.last.now) c.args.facts.now c.requires.facts)
    (initial-small (Some c.args.last.now) c.args.facts.now c.requires.facts) in
    simp (to_z-of_z, distance, turn, initial, charge, node, one, other, sum) (twice-parts _ _ parts holds.twice)

pub returns-clause-carry : goal.returns-clause-carry
returns-clause-carry c =
    let s = steps_are _ _ (pair_of c.args.carry.now) c.descent-down.ensures.prices c.requires.facts c.requires.held _ _
    c.descent-down.ensures.exact c.ascent-up.ensures.exact in
    simp (to_z-of_z, s.down_fits.e, s.up_fits.e) (rw (s.down, s.up) refl)

pub returns-clause-price : goal.returns-clause-price
returns-clause-price c =
    let s = steps_are _ _ (pair_of c.args.carry.now) c.descent-down.ensures.prices c.requires.facts c.requires.held _ _
    c.descent-down.ensures.exact c.ascent-up.ensures.exact in
    let a = price-is _ c.args.rates.now.down_rate _ _ s.down_fits c.down_rate.ensures.value c.paid.ensures.exact in
    let b = price-is _ c.args.rates.now.up_rate _ _ s.up_fits c.up_rate.ensures.value c.paid-2.ensures.exact in
    let sum : SFits w128 (c.paid.result +ℤ c.paid-2.result) =
    rw (a, b) (prices_fit (c.descent-down.result.paid *ℤ c.args.rates.now.down_rate)
    (c.ascent-up.result.paid *ℤ c.args.rates.now.up_rate) s.down_fits.price s.up_fits.price) in
    let charge = cost-fits _ c.requires.facts.charge in
    let node = cost-wide _ c.requires.facts.charge in
    let distance : SFits w128 c.distance_part.result = record { sfits = c.distance_part.type_inv } in
    let turn : SFits w128 c.turn.result = record { sfits = c.turn.type_inv } in
    let initial : SFits w128 c.initial.result = record { sfits = c.initial.type_inv } in
    let one : SFits w128 c.paid.result = record { sfits = c.paid.type_inv } in
    let other : SFits w128 c.paid-2.result = record { sfits = c.paid-2.type_inv } in
    let is : c.distance_part.result ≡ distance_of c.args.facts.now c.descent-down.result.weight c.ascent-up.result.weight =
    simp (to_z-of_z, s.down_fits.weight, s.up_fits.weight) at c.distance_part.ensures.exact in
    let parts =
    parts-after c.args.rates.now c.args.last.now c.args.facts.now (pair_of c.args.carry.now) _ _ _ c.turn.result c.initial.result
    (c.paid.result +ℤ c.paid-2.result) c.turn.ensures.exact c.initial.ensures.exact s.down s.up is (rw (a, b) refl) in
    cost-parts c.args.used _ _ parts _
    (simp (to_z-of_z, distance, turn, initial, charge, node, one, other, sum) at c.price.ensures.exact)
