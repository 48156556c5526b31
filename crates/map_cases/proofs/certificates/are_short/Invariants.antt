use Rattle.std.proofs.Common.{ℕ, ◌≡◌, ◌<◌, ◌≤◌, ◌^◌, Some, length}
use Rattle.std.specs.List.{slice_get}
use Rattle.certificate_text.specs.declared.certificate.Proof.{Proof}
use Rattle.map_cases.proofs.certificates.are_short.Given as goal

abbrev pub invariant-legs : goal.invariant-legs
invariant-legs l = (number : ℕ) (proof : Proof) → number < l.place → slice_get l.legs number ≡ Some proof →
    length proof.walk.items ≤ 2 ^ 32
