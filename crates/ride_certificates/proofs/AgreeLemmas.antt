-- A check of what certifying gives says yes, and so does any other check of it for the same question.
use Rattle.std.proofs.Common.{◌≡◌, ◌⊎◌, inl, inr, ℕ, List, length, Result, Ok, Err, IfOk, refl, sym, ap, ◌∙◌, subst}
use Rattle.certificate_text.specs.Texts.{AreLegs, legs_of, value_of}
use Rattle.certificate_text.specs.declared.certificate.Certificate.{Certificate}
use Rattle.certificate_text.specs.declared.certificate.LowerBound.{LowerBound}
use Rattle.cost_model.specs.Rides.{Setting}
use Rattle.overpass_graph.specs.Maps.{MapValue}
use Rattle.ride_certificates.specs.Certificates.{AsksFor, Certifies, CertifiesTo, IsCertificateAnswer, refused as uncertified, shown, spent, told_of, trackless}
use Rattle.ride_certificates.specs.Checks.{AreAgreed, ChecksTo, IsCheckAnswer, checked, refused}
use Rattle.ride_certificates.specs.Grounds.{HasLegs}
use Rattle.route_certificate.proofs.VerdictLemmas.{accepted-alone}
use Rattle.route_certificate.specs.Certified.{AreWritable}
use Rattle.route_certificate.specs.Legs.{ShowsLeast}
use Rattle.route_certificate.specs.Verdicts.{IsAccepted, total_cost}
use Rattle.route_certificate.specs.declared.ask.TrackAsk.{TrackAsk}
use Rattle.route_certificate.specs.declared.making.Certified.{Certified}
use Rattle.route_certificate.specs.declared.making.Certified.TheVariants.{Shown, NoWalk, Spent}
use Rattle.route_certificate.specs.declared.verdict.Verdict.{Verdict}
use Rattle.route_certificate.specs.declared.verdict.Verdict.TheVariants.{Yes}
use Rattle.route_engine.specs.Refusals.{RefusesEarly}
use Rattle.route_engine.specs.Settings.{Question}
use Rattle.route_ready.specs.declared.error.RouteError.{RouteError}
use Rattle.route_ready.specs.declared.error.RouteError.TheVariants.{NoMemory}
use Rattle.ride_certificates.proofs.GroundLemmas.{legs-same, never-none}
use Rattle.ride_certificates.proofs.LegLemmas.{leg-asked}
use Rattle.ride_certificates.proofs.SameLemmas.{accepted-same}
use Rattle.ride_certificates.proofs.ShownLemmas.{shown-accepted}

-- what is accepted where the legs are asked for in one way is so in another
pub accepted-asked :
    (setting : Setting) (nodes : List ℕ) (a b : TrackAsk) (certificate : Certificate) (sum : ℕ) → AsksFor setting nodes a →
    AsksFor setting nodes b → IsAccepted setting.terrain a certificate sum → IsAccepted setting.terrain b certificate sum
accepted-asked setting nodes a b certificate sum one other is = record {
  one_fewer = is.one_fewer ∙ ap length (one.nodes ∙ sym other.nodes);
  hold = λ number proof below there.
      subst (λ leg. ShowsLeast certificate.bound leg proof)
      (leg-asked setting nodes a number one ∙ sym (leg-asked setting nodes b number other))
      (is.hold number proof below there);
  cost = is.cost;
}

-- a check of what is accepted says yes over the same legs
verdict-yes :
    (setting : Setting) (nodes : List ℕ) (ask : TrackAsk) (certificate : Certificate) (sum : ℕ) (verdict : Verdict) →
    AsksFor setting nodes ask → IsAccepted setting.terrain ask certificate sum → ChecksTo setting nodes certificate verdict →
    verdict ≡ Yes (total_cost certificate)
verdict-yes setting nodes ask certificate sum verdict asks is checks =
    accepted-alone setting.terrain checks.ask certificate sum
    (accepted-asked setting nodes ask checks.ask certificate sum asks checks.asks is) verdict checks.is

-- every answer to a check of it for the same question is that
pub answer-yes :
    (question : Question) (setting : Setting) (nodes : List ℕ) (ask : TrackAsk) (certificate : Certificate) (sum : ℕ) →
    HasLegs question setting nodes → AsksFor setting nodes ask → IsAccepted setting.terrain ask certificate sum →
    (answer : Result Verdict RouteError) → IsCheckAnswer question certificate answer →
    answer ≡ Ok (Yes (total_cost certificate))
answer-yes question setting nodes ask certificate sum legs asks is answer (refused {e = e} none) =
    absurd (never-none question setting nodes legs e none)
answer-yes question setting nodes ask certificate sum legs asks is answer
    (checked {setting = over} {nodes = between} {verdict = verdict} others checks) =
    let same = legs-same question over between others setting nodes legs in
    ap Ok (verdict-yes setting nodes ask certificate sum verdict asks is
    (subst (λ (s : Setting). ChecksTo s nodes certificate verdict) same.0
    (subst (λ (ns : List ℕ). ChecksTo over ns certificate verdict) same.1 checks)))

module _ (question : Question) (setting : Setting) (nodes : List ℕ) (legs : HasLegs question setting nodes)
    (bound : LowerBound) where
  -- what certifying the legs of a question comes to is told as its answer
  pub told-answers : (found : Certified) → CertifiesTo setting nodes bound question.asked.labels found →
      Certifies question bound (told_of found)
  told-answers (Shown certificate) comes =
      shown (record { setting = setting; nodes = nodes; legs = legs; comes = comes })
  told-answers (NoWalk leg) comes =
      inr (trackless (record { setting = setting; nodes = nodes; legs = legs; comes = comes }))
  told-answers (Spent leg) comes =
      inr (spent (record { setting = setting; nodes = nodes; legs = legs; comes = comes }))

  -- and each certificate of the legs that are told gets yes alone
  pub told-agrees : (found : Certified) → CertifiesTo setting nodes bound question.asked.labels found →
      IfOk (told_of found) (λ certificate. AreAgreed question (value_of certificate))
  told-agrees (Shown certificate) comes = λ other answer same is.
      let made = shown-accepted setting.terrain comes.ask bound question.asked.labels (Shown certificate) certificate comes.is refl in
      answer-yes question setting nodes comes.ask other (total_cost other) legs comes.asks
      (accepted-same setting.terrain comes.ask certificate other (total_cost certificate) same made) answer is
  told-agrees (NoWalk leg) comes = _
  told-agrees (Spent leg) comes = _

-- a certificate that is told may be written
pub told-writable : (roads : MapValue) (found : Certified) → AreWritable roads found →
    IfOk (told_of found) (λ certificate. AreLegs roads (legs_of certificate))
told-writable roads (Shown certificate) are = are
told-writable roads (NoWalk leg) are = _
told-writable roads (Spent leg) are = _

-- why a question has no legs is the answer to a request for a certificate
pub none-answers : (question : Question) (bound : LowerBound) (e : RouteError) → RefusesEarly question e →
    (e ≡ NoMemory) ⊎ IsCertificateAnswer question bound (Err e)
none-answers question bound e (inl no_memory) = inl no_memory
none-answers question bound e (inr none) = inr (uncertified none)

-- and to a check of one
pub none-checked :
    (question : Question) (certificate : Certificate) (e : RouteError) → RefusesEarly question e →
    (e ≡ NoMemory) ⊎ IsCheckAnswer question certificate (Err e)
none-checked question certificate e (inl no_memory) = inl no_memory
none-checked question certificate e (inr none) = inr (refused none)
