use Rattle.std.proofs.Common.{◌≡◌, drop}
use Rattle.std.specs.Str.{all_ascii_digits}
use Rattle.route_http.proofs.value.is_count.Given as goal

abbrev pub invariant-digits : goal.invariant-digits
invariant-digits l = all_ascii_digits l.value ≡ all_ascii_digits (drop l.byte-index l.value)
