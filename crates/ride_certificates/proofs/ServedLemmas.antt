-- Of what a server gives for a question a check says yes: its legs are those of the question, and each is shown least.
use Rattle.std.proofs.Common.{◌≡◌, inl, inr, ℕ, List, length, Result, Ok, Err, refl, sym, ap, ◌∙◌, subst, arith}
use Rattle.certificate_text.specs.Texts.{value_of}
use Rattle.certificate_text.specs.declared.certificate.Certificate.{Certificate}
use Rattle.certificate_text.specs.declared.certificate.LowerBound.{LowerBound}
use Rattle.certificate_text.specs.declared.certificate.LowerBound.TheVariants.{Least}
use Rattle.cost_model.specs.Rides.{Leg, Setting}
use Rattle.route_certificate.specs.Asks.{leg_in}
use Rattle.route_certificate.specs.Legs.{ShowsLeast}
use Rattle.route_certificate.specs.Verdicts.{IsAccepted, total_cost}
use Rattle.route_certificate.specs.declared.ask.TrackAsk.{TrackAsk}
use Rattle.route_certificate.specs.declared.verdict.Verdict.{Verdict}
use Rattle.route_certificate.specs.declared.verdict.Verdict.TheVariants.{Yes}
use Rattle.route_engine.specs.Answers.{IsPlanOf, found, plan_for}
use Rattle.route_engine.specs.Certificates.{IsCertificateFor}
use Rattle.route_engine.specs.Plans.{Plan, nth_leg}
use Rattle.route_engine.specs.Settings.{Question}
use Rattle.route_ready.specs.declared.error.RouteError.{RouteError}
use Rattle.ride_certificates.specs.Certificates.{AsksFor}
use Rattle.ride_certificates.specs.Checks.{AgreesWithServed, Checks, IsCheckAnswer, IsServed, checked, refused}
use Rattle.ride_certificates.specs.Grounds.{HasLegs}
use Rattle.ride_certificates.proofs.AgreeLemmas.{answer-yes}
use Rattle.ride_certificates.proofs.GroundLemmas.{legs-same, never-none}
use Rattle.ride_certificates.proofs.LegLemmas.{leg-asked}
use Rattle.ride_certificates.proofs.RefusalLemmas.{leg-planned}
use Rattle.ride_certificates.proofs.SameLemmas.{accepted-same}

-- what a plan is made for, with the certificate that was found for it
record IsMade (question : Question) (made : Certificate) : Type 0 where
  plan : Plan
  of : IsPlanOf question plan
  is : IsCertificateFor plan made

-- a certificate that is served was found for the plan of the question
served-made : (question : Question) (made : Certificate) → IsServed question made → IsMade question made
served-made question made (found {plan = plan} of is) = record { plan = plan; of = of; is = is }

module _ (question : Question) (setting : Setting) (nodes : List ℕ) (ask : TrackAsk) (asks : AsksFor setting nodes ask)
    (made : Certificate) (is : IsCertificateFor (plan_for question setting nodes) made) where
  -- it is accepted on the legs of that plan
  made-accepted : IsAccepted setting.terrain ask made (total_cost made)
  made-accepted = record {
    one_fewer = omega (arith, is.count, ap length asks.nodes);
    hold = λ number proof below there.
        let shows = (is.proofs.each number proof there).shows in
        let same : leg_in setting.terrain ask number ≡ nth_leg (plan_for question setting nodes) number =
        leg-asked setting nodes ask number asks ∙ leg-planned question setting nodes number in
        subst (λ (b : LowerBound). ShowsLeast b (leg_in setting.terrain ask number) proof) (sym is.by_sums)
        (subst (λ (l : Leg). ShowsLeast Least l proof) (sym same) shows);
    cost = refl;
  }

module _ (question : Question) (certificate made : Certificate) (served : IsServed question made)
    (same : value_of certificate ≡ value_of made) where
  -- a check of it, or of what says the same, answers yes
  served-answer : (answer : Result Verdict RouteError) → IsCheckAnswer question certificate answer →
      answer ≡ Ok (Yes (total_cost certificate))
  served-answer answer (refused none) =
      let m = served-made question made served in
      absurd (never-none question m.of.setting m.of.nodes (record { over = m.of.over; are = m.of.mapped }) _ none)
  served-answer answer (checked {setting = setting} {nodes = nodes} {verdict = verdict} legs checks) =
      let m = served-made question made served in
      let planned : HasLegs question m.of.setting m.of.nodes = record { over = m.of.over; are = m.of.mapped } in
      let one = legs-same question m.of.setting m.of.nodes planned setting nodes legs in
      let at : IsCertificateFor (plan_for question m.of.setting m.of.nodes) made =
      subst (λ (p : Plan). IsCertificateFor p made) m.of.is m.is in
      let here : IsCertificateFor (plan_for question setting nodes) made =
      subst (λ (s : Setting). IsCertificateFor (plan_for question s nodes) made) one.0
      (subst (λ (ns : List ℕ). IsCertificateFor (plan_for question m.of.setting ns) made) one.1 at) in
      answer-yes question setting nodes checks.ask certificate (total_cost certificate) legs checks.asks
      (accepted-same setting.terrain checks.ask made certificate (total_cost made) same
      (made-accepted question setting nodes checks.ask checks.asks made here)) answer (checked legs checks)

-- so whatever a call gives agrees with what is served
pub served-agrees : (question : Question) (certificate : Certificate) (result : Result Verdict RouteError) →
    Checks question certificate result → AgreesWithServed question certificate result
served-agrees question certificate (Ok verdict) is = λ made served same.
    inl (served-answer question certificate made served same (Ok verdict) is)
served-agrees question certificate (Err e) (inl no_memory) = λ made served same. inr (ap Err no_memory)
served-agrees question certificate (Err e) (inr is) = λ made served same.
    inl (served-answer question certificate made served same (Err e) is)
