-- Coordinates, this project's own rule: a decimal text in degrees, rounded half up at the sixth decimal
-- before the sign is applied.
use Rattle.std.specs.Prelude.{List, ℕ, ℤ, unsigned_abs, Result}
use Rattle.fixed_num.specs.declared.coordinate.CoordError.{CoordError}
use Rattle.fixed_num.specs.declared.coordinate.CoordError.TheVariants.{NotDecimal, OutOfRange}
use Rattle.fixed_num.specs.Decimal.{rounded_millionths, SpellsValue, value_from, parts_of}

-- the text spells a coordinate of so many microdegrees
abbrev pub IsCoordinate : List ℕ → ℤ → Type 0
IsCoordinate text n = SpellsValue rounded_millionths text n

-- the coordinate of a text within so many microdegrees, or why it has none
unfoldable pub coordinate_of : ℤ → List ℕ → Result ℤ CoordError
coordinate_of most text =
    value_from rounded_millionths (unsigned_abs most) NotDecimal OutOfRange (parts_of text)
