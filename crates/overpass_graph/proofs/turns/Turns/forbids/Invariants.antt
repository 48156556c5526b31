use Rattle.std.proofs.Common.{◌≡◌, ℕ, ◌<◌, false, get_or}
use Rattle.overpass_graph.specs.declared.restriction.Restriction.{Restriction}
use Rattle.overpass_graph.specs.Restrictions.{forbids_ways}
use Rattle.overpass_graph.proofs.turns.Turns.forbids.Given as goal

abbrev pub invariant-places : goal.invariant-places
invariant-places l = (j : ℕ) (r : Restriction) → j < l.place-index →
    r ≡ get_or l.self-inside.restrictions.items (get_or l.place-items j 0) r →
    forbids_ways r l.first.way l.second.way ≡ false
