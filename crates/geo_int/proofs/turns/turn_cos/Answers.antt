use Rattle.std.proofs.Common.{SFits, w64, arith, sym, ◌∙◌}
use Rattle.std.proofs.lemmas.Nat.{mul-le}
use Rattle.std.proofs.lemmas.Int.{ints, to_z-of_z}
use Rattle.geo_int.proofs.TurnLemmas.{turn_cosine-swap, turn_cosine-same, turn_cosine-none, turn_cosine-computed}
use Rattle.geo_int.proofs.turns.turn_cos.Goals as goal

pub returns-then-lengths-eq0-clause-exact : goal.returns-then-lengths-eq0-clause-exact
returns-then-lengths-eq0-clause-exact c = sym (turn_cosine-none _ _ c.if-lengths-eq0.true)

pub returns-then-lengths-eq0-clause-same : goal.returns-then-lengths-eq0-clause-same
returns-then-lengths-eq0-clause-same c = turn_cosine-swap c.args.first.now c.args.second.now ∙ turn_cosine-none _ _ c.if-lengths-eq0.true

pub returns-clause-exact : goal.returns-clause-exact
returns-clause-exact c =
    let is = turn_cosine-computed c.args.first.now c.args.second.now c.sum_of_products.result c.divided.result c.clamp.result
    c.if-lengths-eq0.false (record { sfits = c.sum_of_products.type_inv }) (record { sfits = c.divided.type_inv }) (record { sfits = c.clamp.type_inv }) c.sum_of_products.ensures.exact c.divided.ensures.exact
    c.clamp.ensures.value in
    is

pub returns-clause-same : goal.returns-clause-same
returns-clause-same c =
    let is = turn_cosine-computed c.args.first.now c.args.second.now c.sum_of_products.result c.divided.result c.clamp.result
    c.if-lengths-eq0.false (record { sfits = c.sum_of_products.type_inv }) (record { sfits = c.divided.type_inv }) (record { sfits = c.clamp.type_inv }) c.sum_of_products.ensures.exact c.divided.ensures.exact
    c.clamp.ensures.value in
    turn_cosine-swap c.args.first.now c.args.second.now ∙ sym is

pub returns-clause-straight : goal.returns-clause-straight
returns-clause-straight c =
    let is = turn_cosine-computed c.args.first.now c.args.second.now c.sum_of_products.result c.divided.result c.clamp.result
    c.if-lengths-eq0.false (record { sfits = c.sum_of_products.type_inv }) (record { sfits = c.divided.type_inv }) (record { sfits = c.clamp.type_inv }) c.sum_of_products.ensures.exact c.divided.ensures.exact
    c.clamp.ensures.value in
    λ e. is ∙ turn_cosine-same _ _ c.requires.first e

pub overflow_mul-lengths : goal.overflow_mul-lengths
overflow_mul-lengths c = record { fits = omega (arith, mul-le _ _ _ _ c.requires.first.short c.requires.second.short) }

pub clamp-requires : goal.clamp-requires
clamp-requires c = omega (arith, ints)

pub divided-requires-clause-lengths : goal.divided-requires-clause-lengths
divided-requires-clause-lengths c = mul-le _ _ _ _ c.requires.first.short c.requires.second.short

pub divided-requires-clause-within : goal.divided-requires-clause-within
divided-requires-clause-within c =
    let dot : SFits w64 c.sum_of_products.result = record { sfits = c.sum_of_products.type_inv } in
    simp (to_z-of_z, dot) c.sum_of_products.ensures.within

pub returns-clause-low : goal.returns-clause-low
returns-clause-low c =
    let held : SFits w64 c.clamp.result = record { sfits = c.clamp.type_inv } in
    simp (to_z-of_z, held) c.clamp.ensures.lower_bound

pub returns-clause-high : goal.returns-clause-high
returns-clause-high c =
    let held : SFits w64 c.clamp.result = record { sfits = c.clamp.type_inv } in
    simp (to_z-of_z, held) c.clamp.ensures.upper_bound
