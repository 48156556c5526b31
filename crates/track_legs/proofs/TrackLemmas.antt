-- Legs and tracks, as they are looked at leg after leg.
use Rattle.std.proofs.Common.{◌≡◌, ℕ, suc, ◌+◌, ◌<◌, inl, inr, List, length, get_or, Option, Some, None, SomeIff, sym, ap, ◌∙◌, subst, arith}
use Rattle.std.proofs.lemmas.Bool.{cases_eq}
use Rattle.std.proofs.lemmas.List.{get_or_default}
use Rattle.cost_model.specs.Rides.{IsPermittedWalk, Ride}
use Rattle.cost_model.specs.Walks.{walk_cost}
use Rattle.track_legs.specs.Tracks.{IsLegBetween, IsWalkAt, leg_at, node_at, no_leg}
use Rattle.track_legs.specs.declared.track.Leg.{Leg}
use Rattle.track_legs.specs.declared.track.Track.{Track}

-- a cost that is found and held is the walk's
held-cost : (found : Option ℕ) (bound cost kept : ℕ) → SomeIff found (cost < bound) cost → found ≡ Some kept →
    cost ≡ kept
held-cost None bound cost kept is same = absurd cc
held-cost (Some n) bound cost kept is same = cc

-- the walk's cost is found where it can be held
cost-held : (found : Option ℕ) (bound cost kept : ℕ) → SomeIff found (cost < bound) cost → cost ≡ kept → kept < bound →
    found ≡ Some kept
cost-held None bound cost kept is same fits = absurd (is (subst (λ n. n < bound) (sym same) fits))
cost-held (Some n) bound cost kept is same fits = ap Some (is.1 ∙ same)

module _ (ride : Ride) (a b : ℕ) (walk : List ℕ) (cost : ℕ) (found : Option ℕ) (bound : ℕ)
    (is : SomeIff found (walk_cost ride.prices ride.facts walk < bound) (walk_cost ride.prices ride.facts walk))
  where
    -- a walk whose cost is found to be so much costs so much
    pub walk-there : IsPermittedWalk ride a b walk → found ≡ Some cost → IsWalkAt ride a b walk cost
    walk-there walks same = record {
      walk = walks;
      costs = held-cost found bound (walk_cost ride.prices ride.facts walk) cost is same;
    }

    -- what a walk costs is found
    pub walk-costs : cost < bound → IsWalkAt ride a b walk cost → found ≡ Some cost
    walk-costs fits at = cost-held found bound (walk_cost ride.prices ride.facts walk) cost is at.costs fits

module _ (ride : Ride) (a b : ℕ) (leg : Leg) (walk : List ℕ) (links : walk ≡ leg.links) where
  -- a walk at the cost that is kept is a leg
  pub leg-there : IsWalkAt ride a b walk leg.cost → IsLegBetween ride a b leg
  leg-there at = record {
    walk = subst (λ w. IsPermittedWalk ride a b w) links at.walk;
    cost = ap (λ w. walk_cost ride.prices ride.facts w) (sym links) ∙ at.costs;
  }

  -- and a leg is one
  pub leg-walk : IsLegBetween ride a b leg → IsWalkAt ride a b walk leg.cost
  leg-walk is = record {
    walk = subst (λ w. IsPermittedWalk ride a b w) (sym links) is.walk;
    costs = ap (λ w. walk_cost ride.prices ride.facts w) links ∙ is.cost;
  }

-- the legs before a place and the one at it
pub legs-more : (ride : Ride) (track : Track) (nodes : List ℕ) (legs : List Leg) (place : ℕ) (leg : Leg) →
    nodes ≡ track.nodes → legs ≡ track.legs → place < length legs → leg ≡ get_or legs place leg →
    ((k : ℕ) → k < place → IsLegBetween ride (node_at track k) (node_at track (suc k)) (leg_at track k)) →
    IsLegBetween ride (get_or nodes place 0) (get_or nodes (place + 1) 0) leg →
    (k : ℕ) → k < place + 1 → IsLegBetween ride (node_at track k) (node_at track (suc k)) (leg_at track k)
legs-more ride track nodes legs place leg same_nodes same_legs below is before here k within =
    elim (cases_eq k place) [
      | inl same ↦
          let next : place + 1 ≡ suc place = omega arith in
          let at : leg ≡ leg_at track place =
          is ∙ get_or_default legs place leg no_leg below ∙ ap (λ ls. get_or ls place no_leg) same_legs in
          let P : Leg → Type 0 = λ l. IsLegBetween ride (node_at track place) (node_at track (suc place)) l in
          rw same (subst P at
          (subst (λ ns. IsLegBetween ride (get_or ns place 0) (get_or ns (suc place) 0) leg) same_nodes
          (subst (λ n. IsLegBetween ride (get_or nodes place 0) (get_or nodes n 0) leg) next here)))
      | inr other ↦ before k (omega (arith, within))
    ]
