-- When a circle touches the straight way between two places (this project's own rule).
use Rattle.std.specs.Prelude.{ℕ, ℤ, pos, neg_ℤ, ◌+ℤ◌, ◌-ℤ◌, ◌*ℤ◌, ◌*◌, ◌≤◌, ◌&&◌, int_le, nat_le, unsigned_abs, Bool, false, cond}
use Rattle.geo_int.specs.Place.{Place}
use Rattle.geo_int.specs.Arrow.{east_between, north_between}
use Rattle.geo_int.specs.declared.circles.Offset.{Offset}

-- how far a place lies east and north of a centre
unfoldable pub offset_between : Place → Place → Offset
offset_between centre at = record { east = east_between centre at; north = north_between centre at }

-- both parts are at most this many millimetres
pub record IsWithin (most : ℕ) (offset : Offset) : Type 0 where
  pub east : unsigned_abs offset.east ≤ most
  pub north : unsigned_abs offset.north ≤ most

-- both parts are at most 300 kilometres
abbrev pub is_near : Offset → Bool
is_near offset = nat_le (unsigned_abs offset.east) 300000000 && nat_le (unsigned_abs offset.north) 300000000

-- from the first offset to the second
abbrev pub difference : Offset → Offset → Offset
difference a b = record { east = b.east -ℤ a.east; north = b.north -ℤ a.north }

-- the sum of the products of the parts
abbrev pub dot : Offset → Offset → ℤ
dot a b = a.east *ℤ b.east +ℤ a.north *ℤ b.north

-- twice the area between two offsets, with its sign
abbrev pub cross : Offset → Offset → ℤ
cross a b = a.east *ℤ b.north -ℤ a.north *ℤ b.east

-- how far along the way from the first end to the second the centre's foot lies, times the way's length
abbrev pub foot : Offset → Offset → ℤ
foot a b = neg_ℤ (dot a (difference a b))

-- the square of the way's length
abbrev pub way_square : Offset → Offset → ℤ
way_square a b = dot (difference a b) (difference a b)

-- an end is within the circle whose radius has this square
abbrev pub end_touches : Offset → ℕ → Bool
end_touches a square = int_le (dot a a) (pos square)

-- the line through both ends is within the circle whose radius has this square
abbrev pub line_touches : Offset → Offset → ℕ → Bool
line_touches a b square = int_le (cross a b *ℤ cross a b) (pos square *ℤ way_square a b)

-- by where the foot lies: before the first end, behind the second, or between them
unfoldable pub way_touches : Offset → Offset → ℕ → Bool
way_touches a b square =
    cond (int_le (foot a b) (pos 0)) (end_touches a square)
    (cond (int_le (way_square a b) (foot a b)) (end_touches b square) (line_touches a b square))

-- the circle touches the way between two offsets from its centre, both of which are near
unfoldable pub offsets_touch : Offset → Offset → ℕ → Bool
offsets_touch a b radius = cond (is_near a && is_near b) (way_touches a b (radius * radius)) false

-- the circle of this centre and radius in millimetres touches the way between two places
unfoldable pub circle_touches : Place → Place → Place → ℕ → Bool
circle_touches a b centre radius = offsets_touch (offset_between centre a) (offset_between centre b) radius
