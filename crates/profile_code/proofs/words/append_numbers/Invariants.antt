use Rattle.std.proofs.Common.{◌≡◌, ◌++◌, drop}
use Rattle.profile_code.specs.Listing.{numbers_text}
use Rattle.profile_code.proofs.words.append_numbers.Given as goal

abbrev pub invariant-numbers : goal.invariant-numbers
invariant-numbers l = l.text.items ++ numbers_text (drop l.number-index l.numbers) ≡ l.fn.text.items ++ numbers_text l.numbers
