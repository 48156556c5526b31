-- How the buffers of two labels are compared, by the factors of all links (this project's own rule).
use Rattle.std.specs.Prelude.{◌≡◌, ℕ, zero, suc, ℤ, ◌≤ℤ◌, int_le, Bool, true, false, ◌&&◌}
use Rattle.elev_buffer.specs.declared.labels.Mode.{Mode}
use Rattle.elev_buffer.specs.declared.labels.Mode.TheVariants.{Compensated, Ordered, Equal}
use Rattle.elev_buffer.specs.declared.labels.Modes.{Modes}
use Rattle.cost_model.specs.Facts.{Links}
use Rattle.cost_model.specs.Parts.{is_same}
use Rattle.cost_model.specs.declared.facts.LinkFacts.{LinkFacts}

-- whether a test holds of every number below this one
abbrev pub every : (ℕ → Bool) → ℕ → Bool
every test zero = true
every test (suc n) = every test n && test n

-- the mode, by whether every factor equals costfactor, and whether every factor is at least that
abbrev pub mode_by : Bool → Bool → Mode
mode_by true above = Compensated
mode_by false true = Ordered
mode_by false false = Equal

-- whether the factor for descending is costfactor
abbrev pub is_down_same : LinkFacts → Bool
is_down_same facts = is_same facts.downfactor facts.costfactor

-- whether the factor for descending is at least costfactor
abbrev pub is_down_above : LinkFacts → Bool
is_down_above facts = int_le facts.costfactor facts.downfactor

-- whether the factor for climbing is costfactor
abbrev pub is_up_same : LinkFacts → Bool
is_up_same facts = is_same facts.upfactor facts.costfactor

-- whether the factor for climbing is at least costfactor
abbrev pub is_up_above : LinkFacts → Bool
is_up_above facts = int_le facts.costfactor facts.upfactor

-- the modes of both buffers by the links before this one
unfoldable pub modes_before : (ℕ → LinkFacts) → ℕ → Modes
modes_before facts n = record {
  down = mode_by (every (λ link. is_down_same (facts link)) n) (every (λ link. is_down_above (facts link)) n);
  up = mode_by (every (λ link. is_up_same (facts link)) n) (every (λ link. is_up_above (facts link)) n);
}

-- the modes of both buffers by all links
abbrev pub modes_of : Links → Modes
modes_of links = modes_before links.facts links.count

-- what a mode says of a factor and costfactor
abbrev pub AllowsFactor : Mode → ℤ → ℤ → Type 0
AllowsFactor Compensated factor costfactor = factor ≡ costfactor
AllowsFactor Ordered factor costfactor = costfactor ≤ℤ factor
AllowsFactor Equal factor costfactor = Unit {0}

-- the modes allow these facts
pub record AllowsFacts (modes : Modes) (facts : LinkFacts) : Type 0 where
  pub down : AllowsFactor modes.down facts.downfactor facts.costfactor
  pub up : AllowsFactor modes.up facts.upfactor facts.costfactor
