-- This project's own rule: the classes of bytes that all its texts share, and the last part of a path.
use Rattle.std.specs.List.{after_last}
use Rattle.std.specs.Prelude.{ℕ, Bool, not, ◌&&◌, ◌||◌, nat_le, ◌==◌, List}

-- white space: the bytes 9 to 13, and 32
abbrev pub is_space : ℕ → Bool
is_space byte = (nat_le 9 byte && nat_le byte 13) || (byte == 32)

-- a decimal digit
abbrev pub is_digit : ℕ → Bool
is_digit byte = nat_le 48 byte && nat_le byte 57

-- a byte other than this one
abbrev pub is_other : (byte c : ℕ) → Bool
is_other byte c = not (c == byte)

-- what follows the last slash of a path
abbrev pub base_name : List ℕ → List ℕ
base_name path = after_last (λ byte. byte == 47) path
