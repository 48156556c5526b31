-- The lines that are noted of files. This project's own rule.
use Rattle.std.specs.Prelude.{ℕ, zero, suc, ◌+◌, ◌*◌, ◌/◌, ◌%◌, nat_lt, cond, List, [], ◌∷◌, ◌++◌, length, codes, decimal}
use Rattle.command_words.specs.Given.{Named}
use Rattle.command_words.specs.Shown.{shown}
use Rattle.overpass_graph.specs.Maps.{MapValue}

-- ---- Numbers

-- the last digit of a number
abbrev pub digit : ℕ → ℕ
digit n = 48 + (n % 10)

-- the last three digits of a number, behind a comma
abbrev pub last_group : ℕ → List ℕ
last_group n = 44 ∷ digit (n / 100) ∷ digit (n / 10) ∷ digit n ∷ []

-- a number, with a comma before its last three digits where it has more
unfoldable pub in_thousands : ℕ → List ℕ
in_thousands n = cond (nat_lt n 1000) (decimal n) (decimal (n / 1000) ++ last_group n)

-- a number below 10^9, with a comma before each three digits
unfoldable pub grouped : ℕ → List ℕ
grouped n = cond (nat_lt n 1000) (decimal n) (in_thousands (n / 1000) ++ last_group n)

-- ---- Files

-- the line of a note on what a word names: it, as a word is shown, and this
abbrev pub note_on : List ℕ → List ℕ → List ℕ
note_on name what = shown name ++ (codes ": " ++ (what ++ codes "\n"))

-- a tag table was taken in
abbrev pub table_note : Named → List ℕ
table_note file = note_on file.name (codes "tag table")

-- a profile was taken in
abbrev pub profile_note : Named → List ℕ
profile_note file = note_on file.name (codes "profile")

-- a tile was taken in
abbrev pub tile_note : Named → List ℕ
tile_note file = note_on file.name (codes "heights")

-- a certificate was taken in
abbrev pub certificate_note : Named → List ℕ
certificate_note file = note_on file.name (codes "certificate")

-- so large is a map
abbrev pub map_size : MapValue → List ℕ
map_size map = grouped (length map.nodes) ++ (codes " nodes, " ++ (grouped (length map.links) ++ codes " links"))

-- a map was taken in
abbrev pub map_note : Named → MapValue → List ℕ
map_note file map = note_on file.name (map_size map)

-- ---- Long files

-- so many bytes of a map's file are a part of which a note is written
abbrev pub part_size : ℕ
part_size = 100000000

-- so many parts of a map's file were read
abbrev pub part_note : Named → ℕ → List ℕ
part_note file parts = note_on file.name (decimal (100 * parts) ++ codes " MB")

-- each of so many parts of a map's file was read
abbrev pub part_notes : Named → ℕ → List ℕ
part_notes file zero = []
part_notes file (suc n) = part_notes file n ++ part_note file (suc n)

-- so many bytes of a map's file were read
abbrev pub read_notes : Named → ℕ → List ℕ
read_notes file count = part_notes file (count / part_size)
