-- Which links a rider may take, and which turns (this project's own rule).
use Rattle.std.specs.Prelude.{ℕ, pos, int_lt, Bool, false, not, ◌&&◌, if◌then◌else◌, List, get_or, Option, Some, None}
use Rattle.cost_model.specs.Parts.{least_price}
use Rattle.cost_model.specs.declared.facts.LinkFacts.{LinkFacts}

-- whether the facts of a link let a rider take it: its costfactor is below 10000, and the charge at its end
-- below 1000000
unfoldable pub is_passable : LinkFacts → Bool
is_passable facts = int_lt facts.costfactor (pos 10000000000) && int_lt facts.charge (pos 1000000000000)

-- the low form of what it costs to enter a link whose segment wasn't used, where its facts let a rider take
-- it; none of one that is closed
abbrev pub low_price_of : LinkFacts → Option ℕ
low_price_of facts = if is_passable facts then Some (least_price false facts) else None

-- whether a link is cut, by one truth value a link
abbrev pub is_cut : List Bool → ℕ → Bool
is_cut cut link = get_or cut link false

-- whether a link is open: its facts let a rider take it, and it isn't cut
abbrev pub open_by : (ℕ → LinkFacts) → List Bool → ℕ → Bool
open_by facts cut link = is_passable (facts link) && not (is_cut cut link)

-- the second link is forbidden after the first, where turn restrictions count
abbrev pub forbids_where : (turns : Bool) (forbids : ℕ → ℕ → Bool) (first second : ℕ) → Bool
forbids_where turns forbids first second = turns && forbids first second

-- how many links there are, and which of them are open
pub record Opens : Type 0 where
  pub count : ℕ
  pub is_open : ℕ → Bool
