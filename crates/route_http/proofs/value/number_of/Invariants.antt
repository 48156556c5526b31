use Rattle.std.proofs.Common.{◌≡◌, ◌<◌, ◌^◌, drop}
use Rattle.std.specs.Str.{all_ascii_digits}
use Rattle.std.specs.Prelude.{IsTrue}
use Rattle.fixed_num.specs.Decimal.{digits_after}
use Rattle.route_http.proofs.value.number_of.Given as goal

abbrev pub invariant-digits : goal.invariant-digits
invariant-digits l =
    record {
      small : l.number < 10 ^ l.byte-index;
      digits : IsTrue (all_ascii_digits (drop l.byte-index l.digits));
      number : digits_after 0 l.digits ≡ digits_after l.number (drop l.byte-index l.digits);
    }
