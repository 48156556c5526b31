use Rattle.std.proofs.Common.{ℕ, ℤ, List, ◌++◌, take}
use Rattle.profile_values.specs.Vars.{AreVars, by_bytes}
use Rattle.profile_values.proofs.vars.put_all.Given as goal

abbrev pub invariant-values : goal.invariant-values
invariant-values l =
    (before : List (List ℕ × ℤ)) →
    AreVars before (by_bytes l.initial.index.entries) →
    AreVars (before ++ take l.place l.values) (by_bytes l.index.entries)
