-- Where a head ends: after its first empty line, whose end is a line feed with or without a carriage return.
use Rattle.std.specs.Prelude.{ℕ, suc, List, [], ◌∷◌, if◌then◌else◌, nat_eq, Option, Some, None, option_map, codes}
use Rattle.std.specs.List.{starts_with}
use Rattle.std.specs.Option.{option_or}

-- how many bytes the end of a line and an empty line after it take at the front of these bytes, if they stand
-- there
unfoldable pub empty_line : List ℕ → Option ℕ
empty_line bytes =
    if starts_with nat_eq bytes (codes "\n\n") then Some 2
    else (if starts_with nat_eq bytes (codes "\n\r\n") then Some 3 else None)

-- where the first empty line ends, if there is one
abbrev pub end_of : List ℕ → Option ℕ
end_of [] = None
end_of (b ∷ bytes) = option_or (empty_line (b ∷ bytes)) (option_map (λ n. suc n) (end_of bytes))
