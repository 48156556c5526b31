-- How a word of a command line is shown in a line: a front of it, each byte that isn't printable ASCII by an
-- escape. This project's own rule.
use Rattle.std.specs.Prelude.{ℕ, ◌+◌, ◌/◌, ◌%◌, ◌==◌, Bool, cond, not, ◌&&◌, nat_le, nat_lt, List, [], ◌∷◌, ◌++◌, length, take, codes}

-- a hexadecimal digit
unfoldable pub hex_digit : ℕ → ℕ
hex_digit n = cond (nat_lt n 10) (48 + n) (87 + n)

-- a byte is shown as it is: it is printable ASCII and no backslash
abbrev pub is_plain : ℕ → Bool
is_plain byte = nat_le 32 byte && (nat_le byte 126 && not (byte == 92))

-- a byte as it is shown: itself, or `\x` and two digits
unfoldable pub byte_text : ℕ → List ℕ
byte_text byte = cond (is_plain byte) (byte ∷ []) (92 ∷ 120 ∷ hex_digit (byte / 16) ∷ hex_digit (byte % 16) ∷ [])

-- bytes, one after the other
abbrev pub bytes_text : List ℕ → List ℕ
bytes_text [] = []
bytes_text (byte ∷ bytes) = byte_text byte ++ bytes_text bytes

-- how many bytes of a word are shown at most
abbrev pub most_shown : ℕ
most_shown = 80

-- a word as it is shown: its first bytes, and two dots where there are more
unfoldable pub shown : List ℕ → List ℕ
shown text = bytes_text (take most_shown text) ++ cond (nat_lt most_shown (length text)) (codes "..") []
