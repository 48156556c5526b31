use Rattle.std.proofs.Common.{◌≡◌, ◌≤◌, drop}
use Rattle.map_elements.specs.Whole.{size_in, size_from}
use Rattle.map_elements.proofs.fields.whole.digits_size.Given as goal

abbrev pub invariant-digits : goal.invariant-digits
invariant-digits l = (size_in l.digits ≡ size_from l.number (drop l.digit-index l.digits)) × (l.number ≤ 9223372036854775809)
