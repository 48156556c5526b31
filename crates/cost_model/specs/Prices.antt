-- What climbing costs by the seven global values of a profile (this project's own rule).
use Rattle.std.specs.Prelude.{ℕ, ℤ, pos, ◌≤ℤ◌, int_lt, cond, Bool, List, get_or, Result, Ok, Err, Option, Some, None, position}
use Rattle.std.specs.Int.{int_div_euclid}
use Rattle.elev_buffer.specs.Step.{IsLimits}
use Rattle.elev_buffer.specs.declared.steps.Limits.{Limits}
use Rattle.cost_model.specs.declared.rates.RateError.{RateError}
use Rattle.cost_model.specs.declared.rates.RateError.TheVariants.{NegativeRate, BufferOrder}

-- the price of a micrometre of each buffer in millionths, the slopes below which nothing is collected and
-- the reduction in micrometres for a metre, and the limits of the buffers
pub record Prices : Type 0 where
  pub down_rate : ℤ
  pub up_rate : ℤ
  pub down_cutoff : ℤ
  pub up_cutoff : ℤ
  pub reduction : ℤ
  pub limits : Limits

-- a price of a micrometre, from 0 to 10^9
pub record IsRate (n : ℤ) : Type 0 where
  pub low : pos 0 ≤ℤ n
  pub high : n ≤ℤ pos 1000000000

-- a slope in micrometres for a metre, from 0 to 10^13
pub record IsSlope (n : ℤ) : Type 0 where
  pub low : pos 0 ≤ℤ n
  pub high : n ≤ℤ pos 10000000000000

-- the bounds on prices, and that the penalty buffer is not above the most
pub record IsPrices (prices : Prices) : Type 0 where
  pub down_rate : IsRate prices.down_rate
  pub up_rate : IsRate prices.up_rate
  pub down_cutoff : IsSlope prices.down_cutoff
  pub up_cutoff : IsSlope prices.up_cutoff
  pub reduction : IsSlope prices.reduction
  pub limits : IsLimits prices.limits

-- the global value at a place, in the order uphillcost, downhillcost, uphillcutoff, downhillcutoff,
-- elevationpenaltybuffer, elevationmaxbuffer, elevationbufferreduce
abbrev pub value_at : List ℤ → ℕ → ℤ
value_at globals place = get_or globals place (pos 0)

-- the whole part of a value in millionths
abbrev pub whole_of : ℤ → ℤ
whole_of millionths = int_div_euclid millionths (pos 1000000)

-- a slope in percent, given in millionths, as micrometres for a metre
abbrev pub slope_of : ℤ → ℤ
slope_of millionths = int_div_euclid millionths (pos 100)

-- the limits of the buffers: their millionths are micrometres
abbrev pub limits_of : List ℤ → Limits
limits_of globals = record { penalty = value_at globals 4; most = value_at globals 5 }

-- the prices by the global values
unfoldable pub prices_of : List ℤ → Prices
prices_of globals = record {
  down_rate = whole_of (value_at globals 1);
  up_rate = whole_of (value_at globals 0);
  down_cutoff = slope_of (value_at globals 3);
  up_cutoff = slope_of (value_at globals 2);
  reduction = slope_of (value_at globals 6);
  limits = limits_of globals;
}

-- whether a value is negative
abbrev pub is_negative : ℤ → Bool
is_negative n = int_lt n (pos 0)

-- the refusal of the first negative value, then that of a most below the penalty buffer, else the prices
abbrev pub priced : List ℤ → Option ℕ → Result Prices RateError
priced globals (Some which) = Err (NegativeRate which)
priced globals None =
    cond (int_lt (value_at globals 5) (value_at globals 4))
    (Err (BufferOrder (value_at globals 4) (value_at globals 5)))
    (Ok (prices_of globals))

-- what the seven global values come to
unfoldable pub rates_of : List ℤ → Result Prices RateError
rates_of globals = priced globals (position is_negative globals)
