-- What it costs at least to enter a link after another, whatever walk comes there (this project's own rule).
use Rattle.std.specs.Prelude.{ℕ, ◌+◌, ◌/◌, ◌+ℤ◌, min, unsigned_abs, false, Some}
use Rattle.cost_model.specs.Parts.{initial_of, least_price, turn_of}
use Rattle.cost_model.specs.declared.facts.LinkFacts.{LinkFacts}

-- the low form of the price of the second link, and the turn part and the initial part, as a count of millionths
unfoldable pub least_entry : (last facts : LinkFacts) → ℕ
least_entry last facts = least_price false facts + unsigned_abs (turn_of (Some last) facts +ℤ initial_of (Some last) facts)

-- a price as a weight, in thousands of millionths rounded down, cut to what 32 bits hold
unfoldable pub weight_of : ℕ → ℕ
weight_of price = min (price / 1000) 0xffff_ffff
