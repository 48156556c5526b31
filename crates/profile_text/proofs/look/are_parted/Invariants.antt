use Rattle.std.proofs.Common.{◌≡◌, false, drop}
use Rattle.profile_text.specs.Look.{are_parted}
use Rattle.profile_text.proofs.look.are_parted.Given as goal

abbrev pub invariant-values : goal.invariant-values
invariant-values l = are_parted false l.text ≡ are_parted l.begun (drop l.byte-index l.text)
