-- How what two walks carry and cost is compared (this project's own rule).
use Rattle.std.specs.Prelude.{ℕ, pos}
use Rattle.elev_buffer.specs.Covers.{Terms, Label, label, terms}
use Rattle.elev_buffer.specs.declared.labels.Modes.{Modes}
use Rattle.cost_model.specs.Prices.{Prices}
use Rattle.cost_model.specs.Walks.{pair_of}
use Rattle.cost_model.specs.declared.parts.Carry.{Carry}

-- how labels are compared by these prices and modes
abbrev pub terms_by : Prices → Modes → Terms
terms_by prices modes = terms modes prices.down_rate prices.up_rate

-- the label of what a walk carries and costs
abbrev pub label_of : Carry → ℕ → Label
label_of carry cost = label (pair_of carry) (pos cost)
