-- What still has to be paid is known as far as a cost: what is dear by one such lower bound is so by each.
use Rattle.std.proofs.Common.{◌≡◌, inl, inr, ℕ, ◌+◌, ◌<◌, ◌≤◌, Bool, false, Option, Some, None, refl, subst, arith}
use Rattle.std.proofs.Math.Logic.{∥∥₁_elim}
use Rattle.std.proofs.Props.{props}
use Rattle.std.proofs.lemmas.Bool.{cases_lt}
use Rattle.bike_space.specs.Closed.{IsDear}
use Rattle.bike_space.specs.Kept.{AreKnownBehind}
use Rattle.bike_space.specs.Remaining.{IsRemainingUpTo, rest_price}
use Rattle.bike_space.specs.Tasks.{Task}
use Rattle.certificate_text.specs.declared.certificate.LowerBound.{LowerBound}
use Rattle.certificate_text.specs.declared.certificate.LowerBound.TheVariants.{Zero, Least}
use Rattle.cost_model.specs.Rides.{Leg}
use Rattle.cost_model.specs.declared.parts.Carry.{Carry}
use Rattle.least_sums.specs.Prices.{Prices}
use Rattle.least_sums.specs.Sums.{HasWalk, IsLeastSumUpTo}
use Rattle.overpass_graph.specs.Roads.{Roads}
use Rattle.route_certificate.specs.Legs.{AreKnownBelow, AreRests, AreRestsBelow, leg_rules, unused}

-- ---- At a node

module _ (roads : Roads) (prices : Prices) (target node : ℕ) where
  -- what is known of a node below its radius is what some walk comes to
  known-walk : (radius : Option ℕ) (rest : ℕ) → IsLeastSumUpTo roads prices target radius node (Some rest) →
      ((most : ℕ) → radius ≡ Some most → rest < most) → HasWalk roads prices target node rest
  known-walk None rest is below = is.found
  known-walk (Some most) rest is below = is.found (below most refl)

  -- what is known of it is no more than what a walk comes to
  known-least : (radius low : Option ℕ) (rest : ℕ) → IsLeastSumUpTo roads prices target radius node low →
      HasWalk roads prices target node rest → (least cost : ℕ) → ((first : ℕ) → low ≡ Some first → least ≤ cost + first) →
      least ≤ cost + rest
  known-least None None rest is walk least cost dear = absurd (is walk.walk walk.is)
  known-least None (Some first) rest is walk least cost dear =
      omega (arith, dear first refl, is.least walk.walk walk.is, walk.comes_to)
  known-least (Some most) None rest is walk least cost dear = absurd is
  known-least (Some most) (Some first) rest is walk least cost dear =
      omega (arith, dear first refl, is.least walk.walk walk.is, walk.comes_to)

  -- so what is dear by the one is dear by the other
  known-dear : (radius other low : Option ℕ) (rest : ℕ) → IsLeastSumUpTo roads prices target radius node low →
      IsLeastSumUpTo roads prices target other node (Some rest) → (least cost : ℕ) →
      ((most : ℕ) → other ≡ Some most → least ≤ most) → ((first : ℕ) → low ≡ Some first → least ≤ cost + first) →
      least ≤ cost + rest
  known-dear radius other low rest is known least cost far dear = elim (cases_lt (cost + rest) least) [
    | inl below ↦
        known-least radius low rest is
        (known-walk other rest known (λ most at. omega (arith, far most at, below))) least cost dear
    | inr past ↦ omega (arith, past)
  ]

-- ---- Behind the links of a leg

module _ (leg : Leg) (least : ℕ) (low other : ℕ → Option ℕ) (state : Carry) (within : state.link < leg.ride.roads.links)
    (cost : ℕ) where
  -- by the sums of what still has to be paid
  least-dear : AreKnownBelow leg least low → AreKnownBelow leg least other → IsDear (leg_rules leg low) least state cost →
      IsDear (leg_rules leg other) least state cost
  least-dear p q dear = record {
    ranks = λ rest is.
        let node = leg.ride.roads.to state.link in
        let known : IsRemainingUpTo leg unused q.radius node (Some rest) =
        subst (IsRemainingUpTo leg unused q.radius node) is (q.each state.link within) in
        ∥∥₁_elim (p.each state.link within) (hlevel props) (λ h. ∥∥₁_elim known (hlevel props)
        (λ k. known-dear leg.ride.roads (rest_price leg unused) leg.target node p.radius q.radius (low state.link) rest h k least cost
        q.far dear.ranks));
  }

  -- by either bound of a certificate
  pub rests-dear : (bound : LowerBound) → AreRestsBelow bound leg least low → AreRestsBelow bound leg least other →
      IsDear (leg_rules leg low) least state cost → IsDear (leg_rules leg other) least state cost
  rests-dear Zero p q dear = record {
    ranks = λ rest is.
        let mine : (leg_rules leg low).low state ≡ Some 0 = p state.link within in
        let here : (leg_rules leg other).low state ≡ Some 0 = q state.link within in
        let none : rest ≡ 0 = cc in
        omega (arith, dear.ranks 0 mine, none);
  }
  rests-dear Least p q dear = least-dear p q dear

-- what is known wholly is known as far as any cost
pub rests-below : (bound : LowerBound) (leg : Leg) (below : ℕ) (low : ℕ → Option ℕ) → AreRests bound leg low →
    AreRestsBelow bound leg below low
rests-below Zero leg below low are = are
rests-below Least leg below low are = record { radius = None; far = λ most never. absurd (cc); each = are }

-- a search in which no segment is used, and which knows it up to its radius, knows it so
pub known-behind : (task : Task) → AreKnownBehind task → ((link : ℕ) → task.used link ≡ false) → (below : ℕ) →
    ((most : ℕ) → task.radius ≡ Some most → below ≤ most) → AreKnownBelow task.leg below task.low
known-behind task known none below far = record {
  radius = task.radius;
  far = far;
  each = λ link within.
      let same : task.used ≡ unused = λ i other. none other i in
      subst (λ (u : ℕ → Bool). IsRemainingUpTo task.leg u task.radius (task.leg.ride.roads.to link) (task.low link)) same
      (known link within);
}
