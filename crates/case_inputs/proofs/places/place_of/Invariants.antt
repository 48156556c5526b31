-- No name that was passed is the word.
use Rattle.std.proofs.Common.{◌≢◌, ℕ, ◌<◌, Some}
use Rattle.case_inputs.specs.Words.{name_at}
use Rattle.case_inputs.proofs.places.place_of.Given as goal

abbrev pub invariant-names : goal.invariant-names
invariant-names l = (k : ℕ) → k < l.place → name_at l.names k ≢ Some l.word
