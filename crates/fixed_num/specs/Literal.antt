-- Number literals, this project's own rule: a decimal text, cut after the sixth decimal.
use Rattle.std.specs.Prelude.{List, ℕ, ℤ, Result}
use Rattle.fixed_num.specs.declared.literal.NumError.{NumError}
use Rattle.fixed_num.specs.declared.literal.NumError.TheVariants.{NotNumber, TooLarge}
use Rattle.fixed_num.specs.Decimal.{cut_millionths, SpellsValue, value_from, parts_of}

-- the text spells a literal whose number has so many millionths
abbrev pub IsLiteral : List ℕ → ℤ → Type 0
IsLiteral text n = SpellsValue cut_millionths text n

-- the number of a text, or why it has none
unfoldable pub literal_of : List ℕ → Result ℤ NumError
literal_of text = value_from cut_millionths 1000000000000000 NotNumber TooLarge (parts_of text)
