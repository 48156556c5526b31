-- Numbers that lie below a bound.
use Rattle.std.specs.Prelude.{ℕ, ◌<◌, List, length, get_or}

-- each of these numbers lies below the bound
abbrev pub AreBelow : ℕ → List ℕ → Type 0
AreBelow bound numbers = (k : ℕ) → k < length numbers → get_or numbers k 0 < bound
