use Rattle.std.proofs.Common.{◌≡◌, ap, ◌∙◌, Some, SFits, w64, refl}
use Rattle.std.specs.Int.{w128}
use Rattle.std.proofs.lemmas.Int.{to_z-of_z}
use Rattle.cost_model.specs.Parts.{parts_after}
use Rattle.cost_model.specs.Walks.{facts_of, pair_of, last_link, carry_after}
use Rattle.cost_model.proofs.FactorLemmas.{moves-with_weights}
use Rattle.cost_model.proofs.LinkLemmas.{held-narrow}
use Rattle.cost_model.proofs.PaidLemmas.{PartsHold, held-after, turn-small, initial-small, parts-hold}
use Rattle.cost_model.proofs.WalkLemmas.{goes-on}
use Rattle.cost_model.proofs.links.enter.Goals as goal

-- the parts are those after the last link
parts-is : (c : goal.After-entered) →
    c.entered.result.1 ≡ parts_after c.args.rates.now (Some c.args.last.now) c.args.facts.now (pair_of c.args.carry.now)
parts-is c =
    let held = c.requires.held in
    let down : SFits w64 c.args.carry.now.down = held-narrow c.args.rates.now _ c.entered.ensures.prices held.down_low held.down_high in
    let up : SFits w64 c.args.carry.now.up = held-narrow c.args.rates.now _ c.entered.ensures.prices held.up_low held.up_high in
    let t : SFits w128 c.turn.result = record { sfits = c.turn.type_inv } in
    let i : SFits w128 c.initial.result = record { sfits = c.initial.type_inv } in
    let e = simp (to_z-of_z, t, i, down, up) at c.entered.ensures.parts in
    e ∙ rw (c.turn.ensures.exact, c.initial.ensures.exact) refl

-- so is what is carried
carry-is : (c : goal.After-entered) →
    c.entered.result.0 ≡ carry_after c.args.rates.now c.args.link c.args.facts.now (pair_of c.args.carry.now)
carry-is c =
    let held = c.requires.held in
    let down : SFits w64 c.args.carry.now.down = held-narrow c.args.rates.now _ c.entered.ensures.prices held.down_low held.down_high in
    let up : SFits w64 c.args.carry.now.up = held-narrow c.args.rates.now _ c.entered.ensures.prices held.up_low held.up_high in
    simp (to_z-of_z, down, up) at c.entered.ensures.carry

pub returns-clause-carry : goal.returns-clause-carry
returns-clause-carry c = carry-is c

pub returns-clause-parts : goal.returns-clause-parts
returns-clause-parts c = parts-is c

pub returns-clause-moves : goal.returns-clause-moves
returns-clause-moves c = moves-with_weights c.args.facts.now

pub returns-clause-along : goal.returns-clause-along
returns-clause-along c = λ f w is_last is carried.
    let before : facts_of f (last_link w) ≡ Some c.args.last.now = ap (facts_of f) carried.last ∙ ap Some is_last in
    goes-on c.args.rates.now f w c.args.link c.args.facts.now (pair_of c.args.carry.now) _ _ is carried.buffers (carry-is c)
    (rw before (parts-is c))

pub returns-clause-held : goal.returns-clause-held
returns-clause-held c = rw (carry-is c)
    (held-after c.args.rates.now c.args.link c.args.facts.now (pair_of c.args.carry.now) c.entered.ensures.prices c.requires.facts
    c.requires.held)

-- what holds of the parts
holds : (c : goal.After-entered) → PartsHold c.args.facts.now
    (parts_after c.args.rates.now (Some c.args.last.now) c.args.facts.now (pair_of c.args.carry.now))
holds c =
    parts-hold c.args.rates.now c.args.facts.now (pair_of c.args.carry.now) _ _ c.entered.ensures.prices c.requires.facts c.requires.held
    (turn-small (Some c.args.last.now) c.args.facts.now c.requires.facts)
    (initial-small (Some c.args.last.now) c.args.facts.now c.requires.facts)

pub returns-clause-paid : goal.returns-clause-paid
returns-clause-paid c = rw (parts-is c) (holds c).paid

pub returns-clause-twice : goal.returns-clause-twice
returns-clause-twice c = rw (parts-is c) (holds c).twice

pub returns-clause-least : goal.returns-clause-least
returns-clause-least c = rw (parts-is c) (holds c).least
