-- The words that tags are compared with.
use Rattle.std.specs.Prelude.{ℕ, List}
use lib.Chars.{codes}

-- the word `bicycle`
abbrev pub bicycle : List ℕ
bicycle = codes "bicycle"
