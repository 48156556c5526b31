-- A certificate that was read has short walks, as a check asks for.
use Rattle.std.proofs.Common.{◌≡◌, ℕ, zero, suc, ◌≤◌, ◌^◌, List, [], ◌∷◌, length, map, Some, subst, arith}
use Rattle.std.specs.List.{slice_get}
use Rattle.certificate_text.specs.Texts.{AreShort, leg_of}
use Rattle.certificate_text.specs.declared.certificate.Proof.{Proof}

-- each of its walks has no more than 2^32 links
pub each-short : (legs : List Proof) → AreShort (map leg_of legs) → (number : ℕ) (proof : Proof) →
    slice_get legs number ≡ Some proof → length proof.walk.items ≤ 2 ^ 32
each-short [] few number proof is = absurd (cc)
each-short (leg ∷ legs) few zero proof is =
    let same : leg ≡ proof = cc in
    subst (λ (p : Proof). length p.walk.items ≤ 2 ^ 32) same (omega (arith, few.0))
each-short (leg ∷ legs) few (suc number) proof is = each-short legs few.1 number proof is
