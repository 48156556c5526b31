-- The answer to a check of a certificate of a request (this project's own rule).
use Rattle.std.specs.Prelude.{◌≡◌, ◌⊎◌, ℕ, ◌+◌, List, length, Result, Ok, Err, MatchResult}
use Rattle.bike_space.specs.LegWalks.{IsLeastWalk, leg_cost}
use Rattle.certificate_text.specs.Texts.{CertificateValue, value_of}
use Rattle.certificate_text.specs.declared.certificate.Certificate.{Certificate}
use Rattle.certificate_text.specs.declared.certificate.Proof.{Proof}
use Rattle.cost_model.specs.Rides.{Setting}
use Rattle.ride_certificates.specs.Certificates.{AsksFor}
use Rattle.ride_certificates.specs.Grounds.{HasLegs, leg_of}
use Rattle.route_certificate.specs.Verdicts.{IsLegAt, IsVerdict, total_cost}
use Rattle.route_certificate.specs.declared.ask.TrackAsk.{TrackAsk}
use Rattle.route_certificate.specs.declared.verdict.Verdict.{Verdict}
use Rattle.route_certificate.specs.declared.verdict.Verdict.TheVariants.{Yes}
use Rattle.route_engine.specs.Answers.{IsAnswerOf}
use Rattle.route_engine.specs.Certificates.{IsCertificateFor, IsCertificateRefusal}
use Rattle.route_engine.specs.Refusals.{IsEarly}
use Rattle.route_engine.specs.Settings.{Question}
use Rattle.route_ready.specs.declared.error.RouteError.{RouteError}
use Rattle.route_ready.specs.declared.error.RouteError.TheVariants.{NoMemory}

-- a check of a certificate of the legs between these nodes over a setting comes to this
pub record ChecksTo (setting : Setting) (nodes : List ℕ) (certificate : Certificate) (verdict : Verdict) : Type 0 where
  pub ask : TrackAsk
  pub asks : AsksFor setting nodes ask
  pub is : IsVerdict setting.terrain ask certificate verdict

-- the answer to a check of a certificate of a request: there are no legs, for this reason; or there are, and
-- this is the verdict on them
pub data IsCheckAnswer (question : Question) (certificate : Certificate) : Result Verdict RouteError → Type 0 where
  refused : {e : RouteError} → IsEarly question e → IsCheckAnswer question certificate (Err e)
  checked :
      {setting : Setting} {nodes : List ℕ} {verdict : Verdict} → HasLegs question setting nodes →
      ChecksTo setting nodes certificate verdict → IsCheckAnswer question certificate (Ok verdict)

-- a call gives an answer to the check, or reports want of memory
abbrev pub Checks : Question → Certificate → Result Verdict RouteError → Type 0
Checks question certificate result =
    MatchResult result (λ verdict. IsCheckAnswer question certificate (Ok verdict)) (λ e. (e ≡ NoMemory) ⊎
    IsCheckAnswer question certificate (Err e))

-- whatever a check answers of a certificate that says this, it is yes, with what its legs cost together
abbrev pub AreAgreed : Question → CertificateValue → Type 0
AreAgreed question value =
    (certificate : Certificate) (answer : Result Verdict RouteError) → value_of certificate ≡ value →
    IsCheckAnswer question certificate answer → answer ≡ Ok (Yes (total_cost certificate))

-- this is what a server gives for a request as its certificate
abbrev pub IsServed : Question → Certificate → Type 0
IsServed question made = IsAnswerOf IsCertificateFor IsCertificateRefusal question (Ok made)

-- of what a server gives for a question, and of whatever says the same, a check tells yes with what the legs cost, or
-- reports want of memory
abbrev pub AgreesWithServed : Question → Certificate → Result Verdict RouteError → Type 0
AgreesWithServed question certificate result =
    (made : Certificate) → IsServed question made → value_of certificate ≡ value_of made →
    (result ≡ Ok (Yes (total_cost certificate))) ⊎ (result ≡ Err NoMemory)

-- each walk of a certificate is one of its leg between these nodes over a setting, and no walk of the leg
-- costs less
abbrev pub AreLeastOn : (setting : Setting) (nodes : List ℕ) (certificate : Certificate) → Type 0
AreLeastOn setting nodes certificate =
    (number : ℕ) (proof : Proof) → IsLegAt certificate number proof →
    IsLeastWalk (leg_of setting nodes number) proof.walk.items

-- so it is on the legs of a question, for each of which there is a walk at the cost that is kept; together they
-- cost this
pub record AreLeastFor (question : Question) (certificate : Certificate) (sum : ℕ) : Type 0 where
  pub setting : Setting
  pub nodes : List ℕ
  pub legs : HasLegs question setting nodes
  pub one_fewer : length certificate.legs.items + 1 ≡ length nodes
  pub least : AreLeastOn setting nodes certificate
  pub costs :
      (number : ℕ) (proof : Proof) → IsLegAt certificate number proof →
      leg_cost (leg_of setting nodes number) proof.walk.items ≡ proof.cost
  pub together : sum ≡ total_cost certificate
