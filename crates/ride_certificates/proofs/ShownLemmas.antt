-- A certificate that certifying gives is accepted, and a verdict of yes says that all conditions hold.
use Rattle.std.proofs.Common.{◌≡◌, ℕ, subst}
use Rattle.certificate_text.specs.declared.certificate.Certificate.{Certificate}
use Rattle.certificate_text.specs.declared.certificate.LowerBound.{LowerBound}
use Rattle.cost_model.specs.Rides.{Terrain}
use Rattle.route_certificate.specs.Certified.{IsCertified, no_walk, shown, spent}
use Rattle.route_certificate.specs.Verdicts.{IsAccepted, IsVerdict, accepted, miscounted, refused, total_cost}
use Rattle.route_certificate.specs.declared.ask.TrackAsk.{TrackAsk}
use Rattle.route_certificate.specs.declared.making.Certified.{Certified}
use Rattle.route_certificate.specs.declared.making.Certified.TheVariants.{Shown}
use Rattle.route_certificate.specs.declared.verdict.Verdict.{Verdict}
use Rattle.route_certificate.specs.declared.verdict.Verdict.TheVariants.{Yes}

-- what is shown is accepted
pub shown-accepted :
    (terrain : Terrain) (ask : TrackAsk) (bound : LowerBound) (limit : ℕ) (found : Certified) (certificate : Certificate) →
    IsCertified terrain ask bound limit found → found ≡ Shown certificate →
    IsAccepted terrain ask certificate (total_cost certificate)
shown-accepted terrain ask bound limit found certificate (shown {certificate = made} by short is) same =
    let one : made ≡ certificate = cc in
    subst (λ (c : Certificate). IsAccepted terrain ask c (total_cost c)) one is
shown-accepted terrain ask bound limit found certificate (no_walk first none) same =
    let never : ⊥ = cc in
    absurd never
shown-accepted terrain ask bound limit found certificate (spent first evidence) same =
    let never : ⊥ = cc in
    absurd never

-- with yes all conditions hold
pub yes-accepted :
    (terrain : Terrain) (ask : TrackAsk) (certificate : Certificate) (verdict : Verdict) (sum : ℕ) →
    IsVerdict terrain ask certificate verdict → verdict ≡ Yes sum → IsAccepted terrain ask certificate sum
yes-accepted terrain ask certificate verdict sum (accepted {sum = told} is) same =
    let one : told ≡ sum = cc in
    subst (IsAccepted terrain ask certificate) one is
yes-accepted terrain ask certificate verdict sum (miscounted is) same =
    let never : ⊥ = cc in
    absurd never
yes-accepted terrain ask certificate verdict sum (refused is) same =
    let never : ⊥ = cc in
    absurd never
