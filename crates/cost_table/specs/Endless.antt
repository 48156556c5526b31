-- A space without goals whose lower bound says nothing, so that a search over it settles whatever is reached,
-- the cheaper first (this project's own rule).
use Rattle.std.specs.Prelude.{false, Some}
use Rattle.space_search.specs.Rules.{Rules}

-- the space without goals, with a lower bound of 0 everywhere
abbrev pub endless : {S : Type 0} → Rules S → Rules S
endless rules = record rules { is_goal = λ state. false; low = λ state. Some 0 }
