-- The answer to a request for a certificate (this project's own rule).
use Rattle.std.specs.Prelude.{◌≡◌, ◌⊎◌, ℕ, List, Result, Ok, Err, MatchResult}
use Rattle.certificate_text.specs.declared.certificate.Certificate.{Certificate}
use Rattle.certificate_text.specs.declared.certificate.LowerBound.{LowerBound}
use Rattle.cost_model.specs.OpenLinks.{is_cut}
use Rattle.cost_model.specs.Rides.{Setting}
use Rattle.ride_certificates.specs.Grounds.{HasLegs}
use Rattle.route_certificate.specs.Certified.{IsCertified}
use Rattle.route_certificate.specs.declared.ask.TrackAsk.{TrackAsk}
use Rattle.route_certificate.specs.declared.making.Certified.{Certified}
use Rattle.route_certificate.specs.declared.making.Certified.TheVariants.{Shown, NoWalk, Spent}
use Rattle.route_engine.specs.Answers.{IsAnswer}
use Rattle.route_engine.specs.Refusals.{IsEarly}
use Rattle.route_engine.specs.Settings.{Question}
use Rattle.route_ready.specs.declared.error.RouteError.{RouteError}
use Rattle.route_ready.specs.declared.error.RouteError.TheVariants.{Budget, NoMemory, NoTrack}

-- this asks for the legs between these nodes over a setting, and tells of each link whether it is cut there
pub record AsksFor (setting : Setting) (between : List ℕ) (ask : TrackAsk) : Type 0 where
  pub nodes : ask.nodes.now ≡ between
  pub cut : (link : ℕ) → is_cut ask.cut.now link ≡ is_cut setting.cut link
  pub turns : ask.turns ≡ setting.turns

-- certifying the legs between these nodes over a setting by a lower bound comes to this, with so many labels a leg at
-- most
pub record CertifiesTo (setting : Setting) (nodes : List ℕ) (bound : LowerBound) (limit : ℕ) (certified : Certified)
    : Type 0 where
  pub ask : TrackAsk
  pub asks : AsksFor setting nodes ask
  pub is : IsCertified setting.terrain ask bound limit certified

-- the same for the legs of a question
pub record ComesTo (question : Question) (bound : LowerBound) (certified : Certified) : Type 0 where
  pub setting : Setting
  pub nodes : List ℕ
  pub legs : HasLegs question setting nodes
  pub comes : CertifiesTo setting nodes bound question.asked.labels certified

-- how it is told: a certificate; or that a leg has no walk, or that the limit of labels was spent on it
abbrev pub told_of : Certified → Result Certificate RouteError
told_of (Shown certificate) = Ok certificate
told_of (NoWalk leg) = Err (NoTrack leg)
told_of (Spent leg) = Err (Budget leg 0)

-- the answer to a request for a certificate by a lower bound. There are no legs, for this reason; or each leg is shown a least
-- walk; or this leg is the first that has none; or on this leg the limit of labels was spent, with its evidence
pub data IsCertificateAnswer (question : Question) (bound : LowerBound) : Result Certificate RouteError → Type 0 where
  refused : {e : RouteError} → IsEarly question e → IsCertificateAnswer question bound (Err e)
  shown : {certificate : Certificate} → ComesTo question bound (Shown certificate) →
      IsCertificateAnswer question bound (Ok certificate)
  trackless : {leg : ℕ} → ComesTo question bound (NoWalk leg) → IsCertificateAnswer question bound (Err (NoTrack leg))
  spent : {leg : ℕ} → ComesTo question bound (Spent leg) → IsCertificateAnswer question bound (Err (Budget leg 0))

-- a call gives an answer to the request, or reports want of memory
abbrev pub Certifies : Question → LowerBound → Result Certificate RouteError → Type 0
Certifies question bound result =
    MatchResult result (λ certificate. IsCertificateAnswer question bound (Ok certificate)) (λ e. (e ≡ NoMemory) ⊎
    IsCertificateAnswer question bound (Err e))

-- why there is no certificate: for a reason for which there is no track; or the limit of labels was spent on this
-- leg, with its evidence
pub data IsRefusedAsTrack (question : Question) (bound : LowerBound) : RouteError → Type 0 where
  no_track : {e : RouteError} → IsAnswer question (Err e) → IsRefusedAsTrack question bound e
  only_spent : {leg : ℕ} → ComesTo question bound (Spent leg) → IsRefusedAsTrack question bound (Budget leg 0)
