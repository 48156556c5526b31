-- The certificate of a request: what shows the walk of each leg least, by the least sums of what still has to be paid;
-- and its bytes. This project's own rule.
use Rattle.std.specs.Prelude.{◌≡◌, ℕ, suc, ◌+◌, ◌-◌, ◌*◌, ◌<◌, List, map, length, Some}
use Rattle.std.specs.List.{slice_get}
use Rattle.certificate_text.specs.Texts.{AreLegs, certificate_text, leg_of, value_of}
use Rattle.certificate_text.specs.declared.certificate.Certificate.{Certificate}
use Rattle.certificate_text.specs.declared.certificate.LowerBound.TheVariants.{Least}
use Rattle.certificate_text.specs.declared.certificate.Proof.{Proof}
use Rattle.route_certificate.specs.Certified.{HasSpent, IsProof}
use Rattle.route_certificate.specs.Provings.{most_proved}
use Rattle.route_engine.specs.Labels.{beginning}
use Rattle.route_engine.specs.Plans.{HasNoTrack, LegsHaveWalks, Plan, leg_count, nth_leg}
use Rattle.route_engine.specs.Replies.{IsReplyOf}
use Rattle.route_engine.specs.Settings.{Question}
use Rattle.route_http.specs.Asked.{Asked}
use Rattle.route_http.specs.declared.form.Form.{Form}
use Rattle.route_ready.specs.declared.error.RouteError.{RouteError}
use Rattle.route_ready.specs.declared.error.RouteError.TheVariants.{Budget, NoTrack}
use Rattle.track_reply.specs.Source.{Source}

-- ---- The certificate

-- each of these shows the walk of the leg of its number least, and they may be written
pub record AreProofs (plan : Plan) (legs : List Proof) : Type 0 where
  pub each : (number : ℕ) (proof : Proof) → slice_get legs number ≡ Some proof →
      IsProof Least (nth_leg plan number) proof
  pub written : AreLegs plan.setting.terrain.map (map leg_of legs)

-- this is a certificate of the track that a plan asks for in its first alternative, by the least sums
pub record IsCertificateFor (plan : Plan) (certificate : Certificate) : Type 0 where
  pub by_sums : certificate.bound ≡ Least
  pub count : suc (length certificate.legs.items) ≡ length plan.nodes
  pub proofs : AreProofs plan certificate.legs.items

-- ---- No certificate

-- the limit of labels was spent on this leg: each leg before it has a walk, and there is the evidence
pub record IsSpentOnLeg (plan : Plan) (number : ℕ) : Type 0 where
  pub within : number < leg_count plan
  pub before : LegsHaveWalks plan number
  pub evidence : HasSpent (nth_leg plan number) plan.limit

-- why there is no certificate: there is no track, or the limit is spent
pub data IsCertificateRefusal (plan : Plan) : RouteError → Type 0 where
  no_track : {number : ℕ} → HasNoTrack plan number → IsCertificateRefusal plan (NoTrack number)
  spent : {number : ℕ} → IsSpentOnLeg plan number → IsCertificateRefusal plan (Budget number 0)

-- ---- Its bytes

-- what is told of it in a reply: its text, whatever form is asked for
abbrev pub certificate_reply : Form → Source → Certificate → List ℕ
certificate_reply form source certificate = certificate_text source.map (value_of certificate)

-- these bytes tell a certificate that answers the request
abbrev pub IsCertificateReply : Question → List ℕ → Type 0
IsCertificateReply = IsReplyOf IsCertificateFor IsCertificateRefusal certificate_reply

-- ---- How much is counted

-- the most that is counted for a leg on a map of so many links: the beginning of its search, and by that
abbrev pub most_for_leg : (links limit : ℕ) → ℕ
most_for_leg links limit = beginning + most_proved links limit

-- and for the certificate of a request
abbrev pub most_for_certificate : (links : ℕ) → Asked → ℕ
most_for_certificate links asked = (length asked.waypoints - 1) * most_for_leg links asked.labels
