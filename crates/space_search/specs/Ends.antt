-- How a search ends: by one word of what is found, that there is no way, and that the limit is spent. This
-- project's own rule.
use Rattle.space_search.specs.declared.outcome.Outcome.{Outcome}
use Rattle.space_search.specs.declared.outcome.Outcome.TheVariants.{Found, NoWay, Budget}

-- what an end says: one of what is found, or that there is no way, or that the limit is spent
abbrev pub Ends : {F : Type 0} → (F → Type 0) → (no_way : Type 0) → (budget : Type 0) → Outcome F → Type 0
Ends found no_way budget (Found what) = found what
Ends found no_way budget NoWay = no_way
Ends found no_way budget Budget = budget
