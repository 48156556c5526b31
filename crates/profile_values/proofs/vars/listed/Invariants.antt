use Rattle.std.proofs.Common.{◌≡◌, take}
use Rattle.profile_values.specs.Vars.{by_bytes}
use Rattle.profile_values.proofs.vars.listed.Given as goal

abbrev pub invariant-entries : goal.invariant-entries
invariant-entries l = l.vars ≡ by_bytes (take l.place l.index.entries)
