use Rattle.std.proofs.Common.{◌∙◌, sym, arith}
use Rattle.elev_buffer.proofs.SlotLemmas.{slot-own, slots-enough}
use Rattle.elev_buffer.proofs.slots.slot_of.Goals as goal

pub returns-else-asks_equal-clause-exact : goal.returns-else-asks_equal-clause-exact
returns-else-asks_equal-clause-exact c =
    sym
    (slot-own _ _ _ _ (omega (arith, c.requires.link, slots-enough c.args.modes.now c.args.links))
    (sym c.asks_equal.ensures.exact ∙ c.if-asks_equal.false))

pub returns-else-asks_equal-clause-within : goal.returns-else-asks_equal-clause-within
returns-else-asks_equal-clause-within c = omega (arith, c.requires.link, slots-enough c.args.modes.now c.args.links)
