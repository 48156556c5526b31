use Rattle.std.proofs.Common.{◌≡◌, drop}
use Rattle.map_tables.specs.Draft.{same_members}
use Rattle.map_tables.proofs.members.are_same.Given as goal

abbrev pub invariant-each : goal.invariant-each
invariant-each l = same_members (drop l.i l.members) (drop l.i l.others) ≡ same_members l.members l.others
