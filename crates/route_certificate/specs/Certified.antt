-- What certifying comes to (this project's own rule).
use Rattle.std.specs.Prelude.{ℕ, ◌≡◌, ◌+◌, ◌<◌, ◌≤◌, ◌^◌, false, List, length}
use Rattle.certificate_text.specs.Texts.{AreLegs, IsLeg, leg_of, legs_of}
use Rattle.certificate_text.specs.declared.certificate.Certificate.{Certificate}
use Rattle.certificate_text.specs.declared.certificate.LowerBound.{LowerBound}
use Rattle.certificate_text.specs.declared.certificate.Proof.{Proof}
use Rattle.cost_model.specs.Rides.{Leg, Terrain}
use Rattle.bike_space.specs.LegWalks.{HasNoWalk, IsLeastWalk}
use Rattle.bike_space.specs.Spent.{IsSpentStrong}
use Rattle.overpass_graph.specs.Maps.{MapValue}
use Rattle.space_search.specs.Ends.{Ends}
use Rattle.space_search.specs.declared.outcome.Outcome.{Outcome}
use Rattle.route_certificate.specs.Asks.{leg_in}
use Rattle.route_certificate.specs.Legs.{ShowsLeast}
use Rattle.route_certificate.specs.Verdicts.{AreShort, IsAccepted, total_cost}
use Rattle.route_certificate.specs.declared.ask.TrackAsk.{TrackAsk}
use Rattle.route_certificate.specs.declared.making.Certified.{Certified}
use Rattle.route_certificate.specs.declared.making.Certified.TheVariants.{Shown, NoWalk, Spent}

-- ---- A leg

-- all conditions hold, the walk is least, and it has at most 2^32 links
pub record IsProof (bound : LowerBound) (leg : Leg) (proof : Proof) : Type 0 where
  pub shows : ShowsLeast bound leg proof
  pub least : IsLeastWalk leg proof.walk.items
  pub short : length proof.walk.items ≤ 2 ^ 32

-- the evidence of a spent limit: walks that cost no more than any walk of the leg, one more than the limit
abbrev pub HasSpent : (leg : Leg) (limit : ℕ) → Type 0
HasSpent leg limit = (walks : List (List ℕ)) × IsSpentStrong leg (λ link. false) limit walks

-- a leg is shown a least walk, or has none, or the limit is spent on it
abbrev pub IsShown : (bound : LowerBound) (leg : Leg) (limit : ℕ) → Outcome Proof → Type 0
IsShown bound leg limit = Ends (IsProof bound leg) (HasNoWalk leg) (HasSpent leg limit)

-- a leg that is shown a least walk may be written, with its labels
abbrev pub IsWritable : MapValue → Outcome Proof → Type 0
IsWritable map = Ends (λ proof. IsLeg map (leg_of proof)) (Unit {0}) (Unit {0})

-- ---- A track

-- this is a leg of what is asked, and each leg before it has a least walk
pub record IsFirst (terrain : Terrain) (ask : TrackAsk) (leg : ℕ) : Type 0 where
  pub within : leg + 1 < length ask.nodes.now
  pub before : (number : ℕ) → number < leg → (walk : List ℕ) × IsLeastWalk (leg_in terrain ask number) walk

-- a certificate by this lower bound, of which all conditions hold; or the first leg that has no walk, or on which the limit is spent
pub data IsCertified (terrain : Terrain) (ask : TrackAsk) (bound : LowerBound) (limit : ℕ) : Certified → Type 0 where
  shown :
      {certificate : Certificate} → certificate.bound ≡ bound → AreShort certificate →
      IsAccepted terrain ask certificate (total_cost certificate) →
      IsCertified terrain ask bound limit (Shown certificate)
  no_walk :
      {leg : ℕ} → IsFirst terrain ask leg → HasNoWalk (leg_in terrain ask leg) →
      IsCertified terrain ask bound limit (NoWalk leg)
  spent :
      {leg : ℕ} → IsFirst terrain ask leg → HasSpent (leg_in terrain ask leg) limit →
      IsCertified terrain ask bound limit (Spent leg)

-- a certificate that is shown may be written
abbrev pub AreWritable : MapValue → Certified → Type 0
AreWritable map (Shown certificate) = AreLegs map (legs_of certificate)
AreWritable map (NoWalk leg) = Unit {0}
AreWritable map (Spent leg) = Unit {0}
