-- What has to hold of a leg of a certificate, in the order in which it is tried (this project's own rule).
use Rattle.std.specs.Prelude.{ℕ, ◌≡◌, ◌<◌, ◌≤◌, ◌^◌, Bool, IsTrue, false, List, Option, Some, None}
use Rattle.std.specs.List.{slice_get}
use Rattle.certificate_text.specs.declared.certificate.Entry.{Entry}
use Rattle.certificate_text.specs.declared.certificate.LowerBound.{LowerBound}
use Rattle.certificate_text.specs.declared.certificate.LowerBound.TheVariants.{Zero, Least}
use Rattle.certificate_text.specs.declared.certificate.Proof.{Proof}
use Rattle.cost_model.specs.Rides.{Leg}
use Rattle.cost_model.specs.declared.parts.Carry.{Carry}
use Rattle.space_search.specs.Rules.{Rules}
use Rattle.bike_space.specs.LegWalks.{IsLegWalk, leg_cost}
use Rattle.bike_space.specs.Remaining.{IsRemaining, IsRemainingUpTo}
use Rattle.bike_space.specs.Tasks.{Task, is_carried, rules_of}
use Rattle.route_certificate.specs.Closing.{Closes, IsFirstFlaw}
use Rattle.route_certificate.specs.Entries.{carry_of}
use Rattle.route_certificate.specs.declared.verdict.Why.{Why}
use Rattle.route_certificate.specs.declared.verdict.Why.TheVariants.{Legs, Walk, Bounds, Start, Step, Goal}

-- no segment is used
abbrev pub unused : ℕ → Bool
unused link = false

-- the leg as a space in which what is paid is the cost, with a lower bound of what still has to be paid
abbrev pub leg_task : Leg → (ℕ → Option ℕ) → Task
leg_task leg low = record { leg = leg; used = unused; low = low; radius = None }

abbrev pub leg_rules : Leg → (ℕ → Option ℕ) → Rules Carry
leg_rules leg low = rules_of (leg_task leg low)

-- the lower bound behind each link of the map: 0; or what still has to be paid at least, none where the target isn't
-- reached from there
abbrev pub AreRests : LowerBound → Leg → (ℕ → Option ℕ) → Type 0
AreRests Zero leg low =
    (link : ℕ) → link < leg.ride.roads.links → low link ≡ Some 0
AreRests Least leg low =
    (link : ℕ) → link < leg.ride.roads.links →
    IsRemaining leg unused (leg.ride.roads.to link) (low link)

-- what still has to be paid behind each link of the map, up to a radius that is no less than a cost, or without one
pub record AreKnownBelow (leg : Leg) (below : ℕ) (low : ℕ → Option ℕ) : Type 0 where
  pub radius : Option ℕ
  pub far : (most : ℕ) → radius ≡ Some most → below ≤ most
  pub each : (link : ℕ) → link < leg.ride.roads.links →
      IsRemainingUpTo leg unused radius (leg.ride.roads.to link) (low link)

-- the lower bound behind each link as far as a cost: what ranks below it by one such bound does so by each
abbrev pub AreRestsBelow : LowerBound → Leg → (below : ℕ) → (ℕ → Option ℕ) → Type 0
AreRestsBelow Zero leg below low = AreRests Zero leg low
AreRestsBelow Least leg below low = AreKnownBelow leg below low

-- the walk is one of the leg at the cost that is kept; where the leg's nodes are one, that is 0
pub record IsWalkOf (leg : Leg) (proof : Proof) : Type 0 where
  pub is_walk : IsLegWalk leg proof.walk.items
  pub cost : leg_cost leg proof.walk.items ≡ proof.cost
  pub home : leg.start ≡ leg.target → proof.cost ≡ 0

-- a label's link is one of the map, both its buffers are within 0 and the most, and its cost is below 2^120
pub record IsInBounds (leg : Leg) (entry : Entry) : Type 0 where
  pub carried : IsTrue (is_carried leg (carry_of entry))
  pub small : entry.cost < 2 ^ 120

-- so it is of each label
abbrev pub AreInBounds : Leg → List Entry → Type 0
AreInBounds leg entries =
    (place : ℕ) (entry : Entry) → slice_get entries place ≡ Some entry → IsInBounds leg entry

-- the labels of a leg are in bounds, and its walk is one at the cost that is kept
pub record IsSound (leg : Leg) (proof : Proof) : Type 0 where
  pub walk : IsWalkOf leg proof
  pub bounds : AreInBounds leg proof.entries.items

-- and the labels are closed below that cost, where they rank by this lower bound: all conditions hold
pub record ShowsLeast (bound : LowerBound) (leg : Leg) (proof : Proof) : Type 0 where
  pub sound : IsSound leg proof
  pub closed :
      (low : ℕ → Option ℕ) → AreRestsBelow bound leg proof.cost low → Closes (leg_rules leg low) proof.cost proof.entries.items

-- the labels are in bounds, and this is the first part of a closed list that fails
pub record IsOpenAt (bound : LowerBound) (leg : Leg) (proof : Proof) (why : Why) : Type 0 where
  pub sound : IsSound leg proof
  pub low : ℕ → Option ℕ
  pub rests : AreRestsBelow bound leg proof.cost low
  pub flaw : IsFirstFlaw (leg_rules leg low) proof.cost proof.entries.items (Some why)

-- the first condition that fails of a leg; none where all hold
abbrev pub IsFirstFault : LowerBound → Leg → Proof → Option Why → Type 0
IsFirstFault bound leg proof None = ShowsLeast bound leg proof
IsFirstFault bound leg proof (Some Legs) = ⊥
IsFirstFault bound leg proof (Some Walk) = IsWalkOf leg proof → ⊥
IsFirstFault bound leg proof (Some Bounds) = IsWalkOf leg proof × (AreInBounds leg proof.entries.items → ⊥)
IsFirstFault bound leg proof (Some Start) = IsOpenAt bound leg proof Start
IsFirstFault bound leg proof (Some Step) = IsOpenAt bound leg proof Step
IsFirstFault bound leg proof (Some Goal) = IsOpenAt bound leg proof Goal
