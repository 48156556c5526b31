-- Texts within quotes, after RFC 8259.
use Rattle.std.specs.Prelude.{ℕ, ◌+◌, ◌/◌, ◌%◌, ◌==◌, nat_lt, ◌||◌, cond, List, [], ◌∷◌, ◌++◌, codes}
use Rattle.std.specs.List.{flat_map}

-- the hexadecimal digit of a number below 16
abbrev pub hex_digit : ℕ → ℕ
hex_digit n = cond (nat_lt n 10) (48 + n) (87 + n)

-- a byte within quotes: a quote and a backslash behind a backslash, a byte below 32 by two hexadecimal digits
unfoldable pub escaped_byte : ℕ → List ℕ
escaped_byte byte =
    cond (byte == 34 || byte == 92) (92 ∷ byte ∷ [])
    (cond (nat_lt byte 32) (codes "\\u00" ++ hex_digit (byte / 16) ∷ hex_digit (byte % 16) ∷ []) (byte ∷ []))

-- a text within quotes
unfoldable pub escaped : List ℕ → List ℕ
escaped text = flat_map escaped_byte text
