-- What refuses a certificate refuses the track that is asked for too, but for a spent limit.
use Rattle.std.proofs.Common.{◌≡◌, ◌⊎◌, inl, inr, ℕ, suc, ◌+◌, List, length, get_or, Err, IfErr, refl, ap, ◌∙◌, subst, arith}
use Rattle.bike_space.specs.LegWalks.{HasNoWalk, IsLegWalk}
use Rattle.certificate_text.specs.declared.certificate.LowerBound.{LowerBound}
use Rattle.cost_model.specs.Rides.{Leg, Setting, Terrain, leg_between}
use Rattle.ride_certificates.specs.Certificates.{CertifiesTo, IsRefusedAsTrack, no_track, only_spent, told_of}
use Rattle.ride_certificates.specs.Grounds.{HasLegs, leg_of}
use Rattle.route_certificate.specs.Asks.{leg_in}
use Rattle.route_certificate.specs.Certified.{IsCertified, IsFirst, no_walk, shown, spent}
use Rattle.route_certificate.specs.declared.ask.TrackAsk.{TrackAsk}
use Rattle.route_certificate.specs.declared.making.Certified.{Certified}
use Rattle.route_certificate.specs.declared.making.Certified.TheVariants.{Shown, NoWalk, Spent}
use Rattle.route_engine.specs.Answers.{IsAnswer, early, plan_for, refused as plan_refused}
use Rattle.route_engine.specs.Refusals.{IsEarly, RefusesEarly}
use Rattle.route_engine.specs.Plans.{HasNoTrack, nth_leg, no_track as first_trackless}
use Rattle.route_engine.specs.Settings.{Question}
use Rattle.route_ready.specs.declared.error.RouteError.{RouteError}
use Rattle.route_ready.specs.declared.error.RouteError.TheVariants.{NoMemory, NoTrack}
use Rattle.ride_certificates.proofs.LegLemmas.{leg-asked}

-- why a question has no legs is why it has no track
none-refuses : (question : Question) (e : RouteError) → IsEarly question e → IsAnswer question (Err e)
none-refuses question e is = early is

-- a leg without a walk is the first such
record IsWalkless (terrain : Terrain) (ask : TrackAsk) (leg : ℕ) : Type 0 where
  first : IsFirst terrain ask leg
  none : HasNoWalk (leg_in terrain ask leg)

-- so it is told
walkless : (terrain : Terrain) (ask : TrackAsk) (bound : LowerBound) (limit : ℕ) (found : Certified) (leg : ℕ) →
    IsCertified terrain ask bound limit found → found ≡ NoWalk leg → IsWalkless terrain ask leg
walkless terrain ask bound limit found leg (shown by short is) same =
    let never : ⊥ = cc in
    absurd never
walkless terrain ask bound limit found leg (no_walk {leg = at} first none) same =
    let one : at ≡ leg = cc in
    subst (IsWalkless terrain ask) one (record { first = first; none = none })
walkless terrain ask bound limit found leg (spent first evidence) same =
    let never : ⊥ = cc in
    absurd never

-- the legs are those of the plan of the request
pub leg-planned : (question : Question) (setting : Setting) (nodes : List ℕ) (number : ℕ) →
    leg_of setting nodes number ≡ nth_leg (plan_for question setting nodes) number
leg-planned question setting nodes number =
    let more : number + 1 ≡ suc number = omega arith in
    ap (λ (n : ℕ). leg_between setting (get_or nodes number 0) (get_or nodes n 0)) more

module _ (question : Question) (setting : Setting) (nodes : List ℕ) (legs : HasLegs question setting nodes)
    (bound : LowerBound) where
  -- the first leg without a walk is why there is no track
  trackless-answer : (leg : ℕ) → CertifiesTo setting nodes bound question.asked.labels (NoWalk leg) →
      IsAnswer question (Err (NoTrack leg))
  trackless-answer leg comes =
      let is = walkless setting.terrain comes.ask bound question.asked.labels (NoWalk leg) leg comes.is refl in
      let planned : (k : ℕ) → leg_in setting.terrain comes.ask k ≡ nth_leg (plan_for question setting nodes) k =
      λ k. leg-asked setting nodes comes.ask k comes.asks ∙ leg-planned question setting nodes k in
      let none : HasNoTrack (plan_for question setting nodes) leg = record {
        within = omega (arith, is.first.within, ap length comes.asks.nodes);
        before = λ k below.
            let walk = is.first.before k below in
            (walk.0, subst (λ (l : Leg). IsLegWalk l walk.0) (planned k) walk.1.is_walk);
        none = subst HasNoWalk (planned leg) is.none;
      } in
      plan_refused {plan = plan_for question setting nodes}
      (record { setting = setting; over = legs.over; nodes = nodes; mapped = legs.are; is = refl }) (first_trackless none)

  -- what is told of certifying is refused as the track is
  pub told-refuses : (found : Certified) → CertifiesTo setting nodes bound question.asked.labels found →
      IfErr (told_of found) (λ e. (e ≡ NoMemory) ⊎ IsRefusedAsTrack question bound e)
  told-refuses (Shown certificate) comes = _
  told-refuses (NoWalk leg) comes = inr (no_track (trackless-answer leg comes))
  told-refuses (Spent leg) comes =
      inr (only_spent (record { setting = setting; nodes = nodes; legs = legs; comes = comes }))

-- a refusal before the legs is one of the track
pub early-refuses : (question : Question) (e : RouteError) → RefusesEarly question e →
    (e ≡ NoMemory) ⊎ IsAnswer question (Err e)
early-refuses question e (inl no_memory) = inl no_memory
early-refuses question e (inr none) = inr (none-refuses question e none)

-- so it is of a certificate
pub early-certifies : (question : Question) (bound : LowerBound) (e : RouteError) →
    RefusesEarly question e → (e ≡ NoMemory) ⊎ IsRefusedAsTrack question bound e
early-certifies question bound e (inl no_memory) = inl no_memory
early-certifies question bound e (inr none) = inr (no_track (none-refuses question e none))
