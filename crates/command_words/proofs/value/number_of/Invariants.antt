use Rattle.std.proofs.Common.{◌≡◌, ◌<◌, ◌^◌, drop}
use Rattle.command_words.specs.Value.{number_from, all_digits}
use Rattle.command_words.proofs.value.number_of.Given as goal

abbrev pub invariant-digits : goal.invariant-digits
invariant-digits l =
    record {
      small : l.number < 10 ^ l.byte-index;
      digits : all_digits l.text ≡ all_digits (drop l.byte-index l.text);
      number : number_from 0 l.text ≡ number_from l.number (drop l.byte-index l.text);
    }
