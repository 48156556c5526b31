use Rattle.std.proofs.Common.{◌≡◌, false, drop}
use Rattle.profile_text.specs.Meaning.{row_at}
use Rattle.profile_values.proofs.AssignedLemmas.{found_in}
use Rattle.profile_values.proofs.scope.Tagged.has_one_of.Given as goal

abbrev pub invariant-values : goal.invariant-values
invariant-values l =
    found_in (row_at l.self.rows l.place) l.number false l.values
    ≡ found_in (row_at l.self.rows l.place) l.number l.found (drop l.value-index l.values)
