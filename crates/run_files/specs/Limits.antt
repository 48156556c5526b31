-- How many bytes of files are taken. This project's own rule.
use Rattle.std.specs.Prelude.{ℕ}

-- the most bytes of a tag table's file
abbrev pub most_lookups : ℕ
most_lookups = 1048576

-- the most bytes of a profile's file
abbrev pub most_profile : ℕ
most_profile = 262144

-- the most bytes of a map's file
abbrev pub most_map : ℕ
most_map = 8589934592

-- the most bytes of a certificate's file
abbrev pub most_certificate : ℕ
most_certificate = 1073741824

-- the most bytes of a tile's file
abbrev pub most_tile : ℕ
most_tile = 25934402
