-- Three numbers of a label, of which none is more where it makes another needless (this project's own rule).
use Rattle.std.specs.Prelude.{ℕ, ℤ, pos, ◌+◌, ◌*◌, ◌+ℤ◌, ◌-ℤ◌, ◌*ℤ◌, ◌≤ℤ◌, if◌then◌else◌}
use Rattle.elev_buffer.specs.Covers.{Label, Terms, rate_by}
use Rattle.elev_buffer.specs.Slots.{asks_equal, is_equal, shared_part}
use Rattle.elev_buffer.specs.declared.labels.Mode.{Mode}
use Rattle.elev_buffer.specs.declared.labels.Mode.TheVariants.{Compensated, Ordered, Equal}
use Rattle.elev_buffer.specs.declared.labels.Modes.{Modes}
use Rattle.elev_buffer.specs.declared.labels.Pair.{Pair}
use Rattle.elev_buffer.specs.declared.sums.Sums.{Sums}

-- the cost with the price of a buffer, and the buffer itself where money cannot make up for it
abbrev pub sum_by : Mode → ℤ → ℤ → ℤ → ℤ
sum_by Compensated rate cost buffer = cost +ℤ rate *ℤ buffer
sum_by Ordered rate cost buffer = buffer
sum_by Equal rate cost buffer = buffer

-- what must be equal of both buffers, as one number
abbrev pub shared_both : Modes → Pair → ℕ
shared_both modes pair = shared_part modes.down pair.down * 1125899906842624 + shared_part modes.up pair.up

-- the cost with the price of the first buffer, or that buffer; where it must be equal, all that must be equal
abbrev pub down_by : Terms → Label → ℤ
down_by by a =
    if is_equal by.modes.down
    then pos (shared_both by.modes a.buffers)
    else sum_by by.modes.down by.down_rate a.cost a.buffers.down

-- the cost with the prices of both buffers; where one must be equal, what must be equal, negative
abbrev pub both_by : Terms → Label → ℤ
both_by by a =
    if asks_equal by.modes
    then pos 0 -ℤ pos (shared_both by.modes a.buffers)
    else a.cost +ℤ rate_by by.modes.down by.down_rate *ℤ a.buffers.down
    +ℤ rate_by by.modes.up by.up_rate *ℤ a.buffers.up

-- the three numbers of a label: with the price of its descent, of its climb, and of both
unfoldable pub sums_of : Terms → Label → Sums
sums_of by a = record {
  down = down_by by a;
  up = sum_by by.modes.up by.up_rate a.cost a.buffers.up;
  both = both_by by a;
}

-- none of the first three numbers is more than the second's
pub record IsNoMoreInSums (a b : Sums) : Type 0 where
  pub down : a.down ≤ℤ b.down
  pub up : a.up ≤ℤ b.up
  pub both : a.both ≤ℤ b.both
