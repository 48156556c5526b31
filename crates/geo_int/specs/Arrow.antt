-- Arrows from one place to another, in whole millimetres (this project's own rule).
use Rattle.std.specs.Prelude.{◌≡◌, ℕ, ℤ, pos, ◌+ℤ◌, ◌-ℤ◌, ◌*ℤ◌, ◌≤◌, int_div, unsigned_abs, nat_le, cond, Option, Some, None}
use Rattle.std.specs.Int.{int_div_euclid}
use Rattle.geo_int.specs.Place.{Place}
use Rattle.geo_int.specs.Cosine.{cosine_at}
use Rattle.geo_int.specs.Root.{whole_root}
use Rattle.geo_int.specs.declared.offsets.Arrow.{Arrow}

-- the millimetres north for a difference of latitude, cut toward zero
unfoldable pub north_part : ℤ → ℤ
north_part degrees = int_div (degrees *ℤ pos 11132) (pos 100)

-- the millimetres east for a difference of longitude where the cosine of the latitude is this many
-- billionths, cut toward zero
unfoldable pub east_part : ℤ → ℤ → ℤ
east_part degrees cosine = int_div (degrees *ℤ pos 11132 *ℤ cosine) (pos 100000000000)

-- the latitude halfway between two places, rounded down
unfoldable pub middle_latitude : Place → Place → ℤ
middle_latitude a b = int_div_euclid (a.lat +ℤ b.lat) (pos 2)

-- the millimetres that the second place lies north of the first
unfoldable pub north_between : Place → Place → ℤ
north_between a b = north_part (b.lat -ℤ a.lat)

-- the millimetres that the second place lies east of the first
unfoldable pub east_between : Place → Place → ℤ
east_between a b = east_part (b.lon -ℤ a.lon) (pos (cosine_at (middle_latitude a b)))

-- the sum of the squares of two parts
unfoldable pub square_sum : ℤ → ℤ → ℕ
square_sum east north = unsigned_abs (east *ℤ east +ℤ north *ℤ north)

-- the length of an arrow of these two parts, rounded down
unfoldable pub length_of : ℤ → ℤ → ℕ
length_of east north = whole_root (square_sum east north)

-- the arrow of these two parts
abbrev pub arrow_of : ℤ → ℤ → Arrow
arrow_of east north = record { dx = east; dy = north; len = length_of east north }

-- the length of the arrow from the first place to the second
unfoldable pub length_between : Place → Place → ℕ
length_between a b = length_of (east_between a b) (north_between a b)

-- the arrow from the first place to the second, none where it is longer than 100 kilometres
unfoldable pub arrow_between : Place → Place → Option Arrow
arrow_between a b =
    cond (nat_le (length_between a b) 100000000) (Some (arrow_of (east_between a b) (north_between a b))) None

-- what is known of each arrow between two places: its length is that of its parts, and at most 100 kilometres
pub record IsArrow (arrow : Arrow) : Type 0 where
  pub rooted : arrow.len ≡ length_of arrow.dx arrow.dy
  pub short : arrow.len ≤ 100000000
