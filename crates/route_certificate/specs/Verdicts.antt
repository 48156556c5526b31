-- What a check of a certificate answers (this project's own rule).
use Rattle.std.specs.Prelude.{ℕ, ◌≡◌, ◌+◌, ◌<◌, ◌≤◌, ◌^◌, length, Some}
use Rattle.std.specs.List.{slice_get, sum_by}
use Rattle.certificate_text.specs.declared.certificate.Certificate.{Certificate}
use Rattle.certificate_text.specs.declared.certificate.Proof.{Proof}
use Rattle.cost_model.specs.Rides.{Terrain}
use Rattle.bike_space.specs.LegWalks.{IsLeastWalk}
use Rattle.route_certificate.specs.Asks.{leg_in}
use Rattle.route_certificate.specs.Legs.{IsFirstFault, ShowsLeast}
use Rattle.route_certificate.specs.declared.ask.TrackAsk.{TrackAsk}
use Rattle.route_certificate.specs.declared.verdict.Verdict.{Verdict}
use Rattle.route_certificate.specs.declared.verdict.Verdict.TheVariants.{Yes, No}
use Rattle.route_certificate.specs.declared.verdict.Why.{Why}
use Rattle.route_certificate.specs.declared.verdict.Why.TheVariants.{Legs}

-- the leg of this number of a certificate
abbrev pub IsLegAt : (certificate : Certificate) (number : ℕ) (proof : Proof) → Type 0
IsLegAt certificate number proof = slice_get certificate.legs.items number ≡ Some proof

-- no walk of a certificate has more than 2^32 links
abbrev pub AreShort : Certificate → Type 0
AreShort certificate =
    (number : ℕ) (proof : Proof) → IsLegAt certificate number proof → length proof.walk.items ≤ 2 ^ 32

-- there is one leg fewer than nodes
abbrev pub IsOneFewer : TrackAsk → Certificate → Type 0
IsOneFewer ask certificate = length certificate.legs.items + 1 ≡ length ask.nodes.now

-- what the legs of a certificate cost together
unfoldable pub total_cost : Certificate → ℕ
total_cost certificate = sum_by (λ proof. proof.cost) certificate.legs.items

-- all conditions hold of the first legs, so many of them
abbrev pub HoldBefore : (terrain : Terrain) (ask : TrackAsk) (certificate : Certificate) (count : ℕ) → Type 0
HoldBefore terrain ask certificate count =
    (number : ℕ) (proof : Proof) → number < count → IsLegAt certificate number proof →
    ShowsLeast certificate.bound (leg_in terrain ask number) proof

-- no walk of a leg costs less than the one in the certificate
abbrev pub AreLeastLegs : (terrain : Terrain) (ask : TrackAsk) (certificate : Certificate) → Type 0
AreLeastLegs terrain ask certificate =
    (number : ℕ) (proof : Proof) → IsLegAt certificate number proof →
    IsLeastWalk (leg_in terrain ask number) proof.walk.items

-- all conditions hold, and this is what the legs cost together
pub record IsAccepted (terrain : Terrain) (ask : TrackAsk) (certificate : Certificate) (sum : ℕ) : Type 0 where
  pub one_fewer : IsOneFewer ask certificate
  pub hold : HoldBefore terrain ask certificate (length certificate.legs.items)
  pub cost : sum ≡ total_cost certificate

-- there are so many legs, and that is not one fewer than nodes
pub record IsMiscounted (ask : TrackAsk) (certificate : Certificate) (count : ℕ) : Type 0 where
  pub differ : IsOneFewer ask certificate → ⊥
  pub counted : count ≡ length certificate.legs.items

-- the legs before this one hold, and this is the first condition that fails of it
pub record IsRefusedAt (terrain : Terrain) (ask : TrackAsk) (certificate : Certificate) (leg : ℕ) (why : Why)
    : Type 0 where
  pub one_fewer : IsOneFewer ask certificate
  pub before : HoldBefore terrain ask certificate leg
  pub proof : Proof
  pub there : IsLegAt certificate leg proof
  pub fails : IsFirstFault certificate.bound (leg_in terrain ask leg) proof (Some why)

-- what is answered: that all conditions hold, or the first one that fails
pub data IsVerdict (terrain : Terrain) (ask : TrackAsk) (certificate : Certificate) : Verdict → Type 0 where
  accepted : {sum : ℕ} → IsAccepted terrain ask certificate sum → IsVerdict terrain ask certificate (Yes sum)
  miscounted : {count : ℕ} → IsMiscounted ask certificate count → IsVerdict terrain ask certificate (No count Legs)
  refused :
      {leg : ℕ} {why : Why} → IsRefusedAt terrain ask certificate leg why →
      IsVerdict terrain ask certificate (No leg why)
