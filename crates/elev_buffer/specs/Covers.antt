-- When a label makes another of the same link needless (this project's own rule).
use Rattle.std.specs.Prelude.{◌≡◌, ℤ, pos, ◌+ℤ◌, ◌-ℤ◌, ◌*ℤ◌, ◌≤ℤ◌, ◌<ℤ◌, int_le, Bool, true, ◌&&◌}
use Rattle.std.specs.Int.{int_max}
use Rattle.elev_buffer.specs.Step.{IsLimits, step_of}
use Rattle.elev_buffer.specs.declared.steps.Limits.{Limits}
use Rattle.elev_buffer.specs.declared.steps.Stepped.{Stepped}
use Rattle.elev_buffer.specs.declared.labels.Mode.{Mode}
use Rattle.elev_buffer.specs.declared.labels.Mode.TheVariants.{Compensated, Ordered, Equal}
use Rattle.elev_buffer.specs.declared.labels.Modes.{Modes}
use Rattle.elev_buffer.specs.declared.labels.Pair.{Pair}

-- a number from 0 to 10^15, as buffers and their prices are
pub record IsBuffer (n : ℤ) : Type 0 where
  pub low : pos 0 ≤ℤ n
  pub high : n ≤ℤ pos 1000000000000000

-- both are buffers
pub record IsPair (pair : Pair) : Type 0 where
  pub down : IsBuffer pair.down
  pub up : IsBuffer pair.up

-- by how much the first is more than the second
abbrev pub excess : ℤ → ℤ → ℤ
excess first second = int_max (first -ℤ second) (pos 0)

-- the price of what the first buffer has more than the second, where money can make up for it
abbrev pub price : Mode → ℤ → ℤ → ℤ → ℤ
price Compensated rate first second = rate *ℤ excess first second
price Ordered rate first second = pos 0
price Equal rate first second = pos 0

-- the order that the two buffers must have where money cannot make up for it
abbrev pub IsInOrder : Mode → ℤ → ℤ → Type 0
IsInOrder Compensated first second = Unit {0}
IsInOrder Ordered first second = first ≤ℤ second
IsInOrder Equal first second = first ≡ second

-- how labels are compared: the modes of both buffers, and the prices of a micrometre of each in millionths
pub record Terms : Type 0 where
  pub modes : Modes
  pub down_rate : ℤ
  pub up_rate : ℤ

-- these terms
abbrev pub terms : Modes → ℤ → ℤ → Terms
terms modes down_rate up_rate = record { modes = modes; down_rate = down_rate; up_rate = up_rate }

-- a label: its buffers and its cost
pub record Label : Type 0 where
  pub buffers : Pair
  pub cost : ℤ

-- the label of these buffers and this cost
abbrev pub label : Pair → ℤ → Label
label buffers cost = record { buffers = buffers; cost = cost }

-- the price of what the first label has more of descent
abbrev pub down_price : Terms → Label → Label → ℤ
down_price by a b = price by.modes.down by.down_rate a.buffers.down b.buffers.down

-- the price of what the first label has more of climb
abbrev pub up_price : Terms → Label → Label → ℤ
up_price by a b = price by.modes.up by.up_rate a.buffers.up b.buffers.up

-- the first label makes the second needless
pub record CoversLabel (by : Terms) (a b : Label) : Type 0 where
  pub cost : (a.cost +ℤ down_price by a b +ℤ up_price by a b) ≤ℤ b.cost
  pub down : IsInOrder by.modes.down a.buffers.down b.buffers.down
  pub up : IsInOrder by.modes.up a.buffers.up b.buffers.up

-- the label makes each needless that costs as much as this or more, whatever its buffers
abbrev pub CoversAll : Terms → Label → ℤ → Type 0
CoversAll by a cost = (pair : Pair) (other : ℤ) → IsPair pair → cost ≤ℤ other → CoversLabel by a (label pair other)

-- whether two buffers have the order that they must have where money cannot make up for it
abbrev pub is_in_order : Mode → ℤ → ℤ → Bool
is_in_order Compensated first second = true
is_in_order Ordered first second = int_le first second
is_in_order Equal first second = int_le first second && int_le second first

-- whether the first label makes the second needless
unfoldable pub covers_label : Terms → Label → Label → Bool
covers_label by a b =
    int_le (a.cost +ℤ down_price by a b +ℤ up_price by a b) b.cost
    && is_in_order by.modes.down a.buffers.down b.buffers.down
    && is_in_order by.modes.up a.buffers.up b.buffers.up

-- the steps of both buffers over one link: what is added to each, and how much each is reduced
pub record Climb : Type 0 where
  pub limits : Limits
  pub down_added : ℤ
  pub up_added : ℤ
  pub reduction : ℤ

-- what a climb makes of the buffer of descent
abbrev pub down_step : Climb → Pair → Stepped
down_step climb pair = step_of climb.limits climb.down_added climb.reduction pair.down

-- what a climb makes of the buffer of climb
abbrev pub up_step : Climb → Pair → Stepped
up_step climb pair = step_of climb.limits climb.up_added climb.reduction pair.up

-- both buffers after their steps
abbrev pub after : Climb → Pair → Pair
after climb pair = record { down = (down_step climb pair).e; up = (up_step climb pair).e }

-- what both steps cost
abbrev pub elevation_cost : Terms → Climb → Pair → ℤ
elevation_cost by climb pair =
    (down_step climb pair).paid *ℤ by.down_rate +ℤ (up_step climb pair).paid *ℤ by.up_rate

-- a label after its steps over a link, whose other cost is this
abbrev pub label_after : Terms → Climb → ℤ → Label → Label
label_after by climb other a =
    label (after climb a.buffers) (a.cost +ℤ elevation_cost by climb a.buffers +ℤ other)

-- the covering lasts over every link whose other cost is no more for the first label
abbrev pub IsKept : Terms → Label → Label → Type 0
IsKept by a b =
    (climb : Climb) (a_other b_other : ℤ) → IsLimits climb.limits → pos 0 ≤ℤ climb.reduction →
    a_other ≤ℤ b_other →
    CoversLabel by (label_after by climb a_other a) (label_after by climb b_other b)

-- the cost of a label with the price of its descent
abbrev pub with_down : Terms → Label → ℤ
with_down by a = a.cost +ℤ by.down_rate *ℤ a.buffers.down

-- the cost of a label with the price of its climb
abbrev pub with_up : Terms → Label → ℤ
with_up by a = a.cost +ℤ by.up_rate *ℤ a.buffers.up

-- the cost of a label with the price of both
abbrev pub with_both : Terms → Label → ℤ
with_both by a = a.cost +ℤ by.down_rate *ℤ a.buffers.down +ℤ by.up_rate *ℤ a.buffers.up

-- the first label is no more in each of three sums: with the price of its descent, of its climb, and of both
pub record IsBelowInSums (by : Terms) (a b : Label) : Type 0 where
  pub down : with_down by a ≤ℤ with_down by b
  pub up : with_up by a ≤ℤ with_up by b
  pub both : with_both by a ≤ℤ with_both by b

-- the price of a micrometre of a buffer, and nothing where money cannot make up for it
abbrev pub rate_by : Mode → ℤ → ℤ
rate_by Compensated rate = rate
rate_by Ordered rate = pos 0
rate_by Equal rate = pos 0

-- whatever the second label makes needless of labels that cost no less than the first, the first makes
-- needless too
abbrev pub SupersedesLabel : Terms → Label → Label → Type 0
SupersedesLabel by a b = (later : Label) → a.cost ≤ℤ later.cost → CoversLabel by b later →
    CoversLabel by a later

-- at these prices the first label is no more in each of the three sums of the cost with the price of descent,
-- of climb, and of both; a sum is asked for only where its prices are above 0
pub record AreSumsBelow (down_rate up_rate : ℤ) (a b : Label) : Type 0 where
  pub down : pos 0 <ℤ down_rate →
      (a.cost +ℤ down_rate *ℤ a.buffers.down) ≤ℤ (b.cost +ℤ down_rate *ℤ b.buffers.down)
  pub up : pos 0 <ℤ up_rate →
      (a.cost +ℤ up_rate *ℤ a.buffers.up) ≤ℤ (b.cost +ℤ up_rate *ℤ b.buffers.up)
  pub both : pos 0 <ℤ down_rate → pos 0 <ℤ up_rate →
      (a.cost +ℤ down_rate *ℤ a.buffers.down +ℤ up_rate *ℤ a.buffers.up)
      ≤ℤ (b.cost +ℤ down_rate *ℤ b.buffers.down +ℤ up_rate *ℤ b.buffers.up)

-- both buffers have the order that their modes ask for, and the first label is no more in the three sums at
-- the prices that money can make up for
pub record IsBelowWherePriced (by : Terms) (a b : Label) : Type 0 where
  pub down : IsInOrder by.modes.down a.buffers.down b.buffers.down
  pub up : IsInOrder by.modes.up a.buffers.up b.buffers.up
  pub sums : AreSumsBelow (rate_by by.modes.down by.down_rate) (rate_by by.modes.up by.up_rate) a b
