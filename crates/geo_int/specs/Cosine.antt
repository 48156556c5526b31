-- The cosine of a latitude in whole numbers, by five terms of its series (this project's own rule).
use Rattle.std.specs.Prelude.{ℕ, ℤ, ◌-◌, ◌*◌, ◌/◌, unsigned_abs}

-- an angle in microdegrees as billionths of its radians
unfoldable pub radians : ℕ → ℕ
radians degrees = degrees * 1745329252 / 100000000

-- the square of an angle in billionths
unfoldable pub squared : ℕ → ℕ
squared angle = angle * angle / 1000000000

-- one more term of the series: 1 less the square times the terms behind it, divided by the two next numbers'
-- product
unfoldable pub series_term : ℕ → ℕ → ℕ → ℕ
series_term square behind product = 1000000000 - square * behind / 1000000000 / product

-- the series of the cosine over the square of the angle; what would fall below 0 is 0
unfoldable pub cosine_series : ℕ → ℕ
cosine_series square =
    series_term square
    (series_term square (series_term square (series_term square (1000000000 - square / 90) 56) 30) 12)
    2

-- the cosine of a latitude in microdegrees, in billionths
unfoldable pub cosine_at : ℤ → ℕ
cosine_at lat = cosine_series (squared (radians (unsigned_abs lat)))
