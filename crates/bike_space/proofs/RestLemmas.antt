-- What still has to be paid is one from each node, and starts and steps enter links of the map.
use Rattle.std.proofs.Common.{◌≡◌, ℕ, ◌<◌, Bool, false, Option, Some, None, refl, subst}
use Rattle.std.proofs.Math.Logic.{∥∥₁_elim}
use Rattle.std.proofs.Props.{props}
use Rattle.std.proofs.lemmas.Option.{cond_some}
use Rattle.cost_model.specs.Rides.{Leg}
use Rattle.cost_model.specs.Walks.{empty_pair, pair_of}
use Rattle.cost_model.specs.declared.facts.LinkFacts.{LinkFacts}
use Rattle.cost_model.specs.declared.parts.Carry.{Carry}
use Rattle.elev_buffer.specs.declared.labels.Pair.{Pair}
use Rattle.least_sums.proofs.CallerLemmas.{least-one}
use Rattle.overpass_graph.proofs.CallerLemmas.{out-sound}
use Rattle.bike_space.specs.Lawful.{IsTask}
use Rattle.bike_space.specs.Remaining.{IsRemaining, rest_price}
use Rattle.bike_space.specs.Tasks.{Task, entered, rules_of}
use Rattle.bike_space.proofs.AgreeLemmas.{remaining-agrees}
use Rattle.bike_space.proofs.CarryLemmas.{step-is}

-- there is one least sum
pub remaining-one : (leg : Leg) (used : ℕ → Bool) (node : ℕ) (a b : Option ℕ) → IsRemaining leg used node a →
    IsRemaining leg used node b → a ≡ b
remaining-one leg used node a b p q =
    ∥∥₁_elim p (hlevel props) (λ h. ∥∥₁_elim q (hlevel props)
    (λ k. least-one leg.ride.roads (rest_price leg used) leg.target node a b h k))

module _ (task : Task) where
  -- what is entered is a link of the map
  entered-within : (before : Option LinkFacts) (link : ℕ) (pair : Pair) → link < task.leg.ride.roads.links →
      (entered task before link pair).0.link < task.leg.ride.roads.links
  unfolding entered
  entered-within before link pair within = within

  -- by a start
  pub start-within : (number : ℕ) (state : Carry) (cost : ℕ) → number < (rules_of task).starts →
      (rules_of task).start number ≡ Some (state, cost) → state.link < task.leg.ride.roads.links
  start-within number state cost within is =
      let out = out-sound task.leg.ride.roads task.leg.start number within in
      let p = cond_some _ _ _ is in
      let P : Carry × ℕ → Type 0 = λ e. e.0.link < task.leg.ride.roads.links in
      subst P p.1 (entered-within None _ empty_pair out.0)

  -- and by a step
  pub step-within : (from : Carry) (number : ℕ) (state : Carry) (cost : ℕ) → number < (rules_of task).steps from →
      (rules_of task).step from number ≡ Some (state, cost) → state.link < task.leg.ride.roads.links
  step-within from number state cost within step =
      let s = step-is task from from.link number state cost refl within step in
      let P : Carry × ℕ → Type 0 = λ e. e.0.link < task.leg.ride.roads.links in
      subst P s.is (entered-within (Some (task.leg.ride.facts from.link)) _ (pair_of from) s.within)

  -- where no segment is used and there is no radius, the bound of a lawful search is what still has to be paid
  pub rest-behind : IsTask task → ((link : ℕ) → task.used link ≡ false) → task.radius ≡ None → (link : ℕ) →
      link < task.leg.ride.roads.links →
      IsRemaining task.leg (λ _. false) (task.leg.ride.roads.to link) (task.low link)
  rest-behind lawful none whole link within =
      remaining-agrees task.leg task.used (λ _. false) (λ other _. none other) (task.leg.ride.roads.to link) (task.low link)
      (lawful.whole whole link within)
