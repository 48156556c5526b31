use Rattle.std.proofs.Common.{[], None, refl}
use Rattle.cost_model.specs.Parts.{parts_after}
use Rattle.cost_model.specs.Walks.{empty_pair}
use Rattle.cost_model.proofs.FactorLemmas.{moves-with_weights}
use Rattle.cost_model.proofs.PaidLemmas.{PartsHold, empty-held, held-after, turn-small, initial-small, parts-hold}
use Rattle.cost_model.proofs.WalkLemmas.{goes-on}
use Rattle.cost_model.proofs.links.first.Goals as goal

pub returns-clause-moves : goal.returns-clause-moves
returns-clause-moves c = moves-with_weights c.args.facts.now

pub returns-clause-along : goal.returns-clause-along
returns-clause-along c = λ f e. goes-on c.args.rates.now f [] c.args.link c.args.facts.now empty_pair _ _ e refl c.entered.ensures.carry
    c.entered.ensures.parts

pub returns-clause-held : goal.returns-clause-held
returns-clause-held c = rw c.entered.ensures.carry
    (held-after c.args.rates.now c.args.link c.args.facts.now empty_pair c.entered.ensures.prices c.requires.facts
    (empty-held _ c.entered.ensures.prices))

-- what holds of the parts
holds : (c : goal.After-entered) → PartsHold c.args.facts.now (parts_after c.args.rates.now None c.args.facts.now empty_pair)
holds c =
    parts-hold c.args.rates.now c.args.facts.now empty_pair _ _ c.entered.ensures.prices c.requires.facts
    (empty-held _ c.entered.ensures.prices)
    (turn-small None c.args.facts.now c.requires.facts) (initial-small None c.args.facts.now c.requires.facts)

pub returns-clause-paid : goal.returns-clause-paid
returns-clause-paid c = rw c.entered.ensures.parts (holds c).paid

pub returns-clause-twice : goal.returns-clause-twice
returns-clause-twice c = rw c.entered.ensures.parts (holds c).twice

pub returns-clause-least : goal.returns-clause-least
returns-clause-least c = rw c.entered.ensures.parts (holds c).least
