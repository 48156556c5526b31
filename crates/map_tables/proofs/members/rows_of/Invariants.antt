use Rattle.std.proofs.Common.{◌≡◌, length, map, take}
use Rattle.map_tables.specs.Rows.{member_of, LieWithin}
use Rattle.map_tables.proofs.members.rows_of.Given as goal

abbrev pub invariant-each : goal.invariant-each
invariant-each l = record {
  value : map (member_of l.words.items) l.rows.items ≡ take l.member-index l.members;
  within : LieWithin (length l.words.items) l.rows.items;
}
