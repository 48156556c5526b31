-- A leg of a certificate: its first fault by the space of the leg, and that its walk is least where it has none.
use Rattle.std.proofs.Common.{◌≡◌, ◌≢◌, ℕ, IfOk, Result, Ok, Err, ◌<◌, ◌≤◌, ◌^◌, true, false, Bool, nat_eq, if◌then◌else◌, List, length, Option, Some, None, refl, sym, ap, ◌∙◌, subst, arith}
use Rattle.std.proofs.lemmas.Bool.Decides.{nat_tests}
use Rattle.certificate_text.specs.declared.certificate.Entry.{Entry}
use Rattle.certificate_text.specs.declared.certificate.LowerBound.{LowerBound}
use Rattle.certificate_text.specs.declared.certificate.Proof.{Proof}
use Rattle.cost_model.specs.Parts.{entry_cost}
use Rattle.cost_model.specs.Rides.{Leg}
use Rattle.cost_model.specs.Walks.{carry_after, empty_pair, pair_of}
use Rattle.cost_model.specs.declared.parts.Carry.{Carry}
use Rattle.overpass_graph.specs.Walks.{link_at}
use Rattle.space_search.specs.Laws.{IsSpace}
use Rattle.track_legs.specs.Tracks.{IsWalkAt}
use Rattle.bike_space.specs.Lawful.{IsTask}
use Rattle.bike_space.specs.LegWalks.{IsLeastWalk, IsLegWalk, leg_cost, leg_rank}
use Rattle.bike_space.specs.Tasks.{Task, chosen, entered, may_take, rules_of, start_by, step_by}
use Rattle.bike_space.proofs.CallerLemmas.{closed-walks, rank-agrees, start-within, step-within, walk-fits}
use Rattle.route_certificate.specs.Closing.{Closes, IsFirstFlaw}
use Rattle.route_certificate.specs.Entries.{AreBounded, carry_of, labels_of}
use Rattle.route_certificate.specs.Legs.{AreInBounds, AreRestsBelow, IsFirstFault, IsWalkOf, ShowsLeast, leg_rules, leg_task}
use Rattle.route_certificate.specs.declared.verdict.Why.{Why}
use Rattle.route_certificate.specs.declared.verdict.Why.TheVariants.{Legs, Walk, Bounds, Start, Step, Goal}
use Rattle.route_certificate.proofs.ClosingLemmas.{Alike, closed-list, flaw-alike}
use Rattle.route_certificate.proofs.KnownLemmas.{rests-dear}

-- ---- The walk

module _ (leg : Leg) (proof : Proof) (walk : List ℕ) (same : walk ≡ proof.walk.items) where
  -- a walk between the nodes of a leg at the cost that is kept
  pub walk-of : (leg.start ≡ leg.target → proof.cost ≡ 0) → IsWalkAt leg.ride leg.start leg.target walk proof.cost →
      IsWalkOf leg proof
  walk-of home at = record {
    is_walk = subst (λ w. IsLegWalk leg w) same at.walk;
    cost = ap (λ w. leg_cost leg w) (sym same) ∙ at.costs;
    home = home;
  }

  -- and the other way round
  pub of-walk : IsWalkOf leg proof → IsWalkAt leg.ride leg.start leg.target walk proof.cost
  of-walk is = record {
    walk = subst (λ w. IsLegWalk leg w) (sym same) is.is_walk;
    costs = ap (λ w. leg_cost leg w) same ∙ is.cost;
  }

-- ---- One lower bound

-- the spaces of two lower bounds that are known as far as a cost answer alike
rests-alike : (bound : LowerBound) (leg : Leg) (below : ℕ) (low other : ℕ → Option ℕ) → AreRestsBelow bound leg below low →
    AreRestsBelow bound leg below other → (entries : List Entry) → Alike (leg_rules leg low) (leg_rules leg other) below entries
unfolding entered
rests-alike bound leg below low other p q entries = record {
  starts = refl;
  start = λ number. refl;
  steps = λ state. refl;
  step = λ state number. refl;
  goal = λ state. refl;
  covers = λ x cx y cy. refl;
  start_dear = λ number state cost within is at.
      let inside = start-within (leg_task leg low) number state cost within is in
      (rests-dear leg below low other state inside at bound p q, rests-dear leg below other low state inside at bound q p);
  step_dear = λ place entry there number state cost within is at.
      let inside = step-within (leg_task leg low) (carry_of entry) number state cost within is in
      (rests-dear leg below low other state inside at bound p q, rests-dear leg below other low state inside at bound q p);
}

-- what fails by the one fails by the other
pub flaw-one : (bound : LowerBound) (leg : Leg) (proof : Proof) (low other : ℕ → Option ℕ) → AreRestsBelow bound leg proof.cost low →
    AreRestsBelow bound leg proof.cost other → (flaw : Option Why) → IsFirstFlaw (leg_rules leg low) proof.cost proof.entries.items flaw →
    IsFirstFlaw (leg_rules leg other) proof.cost proof.entries.items flaw
flaw-one bound leg proof low other p q flaw is =
    flaw-alike (leg_rules leg low) (leg_rules leg other) proof.cost proof.entries.items
    (rests-alike bound leg proof.cost low other p q proof.entries.items) flaw is

-- ---- The leg's own space

module _ (task : Task) (none : (link : ℕ) → task.used link ≡ false) where
  -- a start is that of the leg without used segments
  start-plain : (link : ℕ) → start_by task link ≡ start_by (leg_task task.leg task.low) link
  unfolding entered
  start-plain link =
      ap (λ (b : Bool). if task.leg.ride.is_open link
      then Some (
        carry_after task.leg.ride.prices link (task.leg.ride.facts link) empty_pair,
        entry_cost task.leg.ride.prices b None (task.leg.ride.facts link) empty_pair,
      ) else None) (none link)

  -- so is a step
  step-plain : (carry : Carry) (link : ℕ) → step_by task carry link ≡ step_by (leg_task task.leg task.low) carry link
  unfolding entered
  step-plain carry link =
      ap (λ (b : Bool). if may_take task.leg carry.link link
      then Some (
        carry_after task.leg.ride.prices link (task.leg.ride.facts link) (pair_of carry),
        entry_cost task.leg.ride.prices b (Some (task.leg.ride.facts carry.link)) (task.leg.ride.facts link)
            (pair_of carry),
      ) else None)
      (none link)

  -- the space answers as that of the leg
  pub plain-alike : (below : ℕ) (entries : List Entry) → Alike (rules_of task) (leg_rules task.leg task.low) below entries
  plain-alike below entries = record {
    starts = refl;
    start = λ number. start-plain (chosen task.leg.ride.roads task.leg.start number);
    steps = λ state. refl;
    step = λ state number. step-plain state (chosen task.leg.ride.roads (task.leg.ride.roads.to state.link) number);
    goal = λ state. refl;
    covers = λ x cx y cy. refl;
    start_dear = λ number state cost within is at. (λ d. record { ranks = d.ranks }, λ d. record { ranks = d.ranks });
    step_dear = λ place entry there number state cost within is at. (λ d. record { ranks = d.ranks }, λ d. record { ranks = d.ranks });
  }

  -- a rank is a cost
  pub cost-plain : (walk : List ℕ) → leg_rank task.leg task.used walk ≡ leg_cost task.leg walk
  cost-plain walk = rank-agrees task.leg task.used (λ link. false) walk (λ k below. none (link_at walk k))

  -- labels in bounds may be compared
  pub in-bounds : (entries : List Entry) → AreInBounds task.leg entries → AreBounded (rules_of task) entries
  in-bounds entries are = λ place entry there.
      let one = are place entry there in record { valid = one.carried; small = one.small }

  module _ (proof : Proof) (walk : IsWalkOf task.leg proof) (bounds : AreInBounds task.leg proof.entries.items) where
    -- where its labels are closed below its cost, the walk is least
    pub proof-least : IsTask task → IsSpace (rules_of task) → Closes (rules_of task) proof.cost proof.entries.items →
        IsLeastWalk task.leg proof.walk.items
    proof-least lawful laws closed = record {
      is_walk = walk.is_walk;
      least = λ other is.
          elim (nat_eq task.leg.start task.leg.target) as (λ (t : Bool). nat_eq task.leg.start task.leg.target ≡ t →
          leg_cost task.leg proof.walk.items ≤ leg_cost task.leg other) [
            | true ↦ λ t.
                let same : task.leg.start ≡ task.leg.target = grind (arith, nat_tests, t) in
                omega (arith, walk.cost, walk.home same)
            | false ↦ λ t.
                let differ : task.leg.start ≢ task.leg.target =
                λ same. (let never : ⊥ = grind (arith, nat_tests, t, same) in never) in
                let list = closed-list (rules_of task) proof.cost proof.entries.items (in-bounds proof.entries.items bounds)
                closed in
                let below = closed-walks task lawful laws differ proof.cost (labels_of proof.entries.items) list other is in
                omega (arith, below, walk.cost, cost-plain other)
          ] refl;
    }

    -- the first condition that fails, by the first part of a closed list that does
    fault-of : (bound : LowerBound) → AreRestsBelow bound task.leg proof.cost task.low → (flaw : Option Why) →
        IsFirstFlaw (leg_rules task.leg task.low) proof.cost proof.entries.items flaw → IsFirstFault bound task.leg proof flaw
    fault-of bound rests None is =
        record {
          sound = record { walk = walk; bounds = bounds };
          closed = λ low other. flaw-one bound task.leg proof task.low low rests other None is;
        }
    fault-of bound rests (Some Legs) fails = fails
    fault-of bound rests (Some Walk) fails = absurd fails
    fault-of bound rests (Some Bounds) fails = absurd fails
    fault-of bound rests (Some Start) fails =
        record { sound = record { walk = walk; bounds = bounds }; low = task.low; rests = rests; flaw = fails }
    fault-of bound rests (Some Step) fails =
        record { sound = record { walk = walk; bounds = bounds }; low = task.low; rests = rests; flaw = fails }
    fault-of bound rests (Some Goal) fails =
        record { sound = record { walk = walk; bounds = bounds }; low = task.low; rests = rests; flaw = fails }

    -- so what a call answers of the list over the space is what it answers of the leg
    pub fault-answers : {E : Type 0} (bound : LowerBound) → AreRestsBelow bound task.leg proof.cost task.low → (answer : Result (Option Why) E) →
        IfOk answer (IsFirstFlaw (rules_of task) proof.cost proof.entries.items) → IfOk answer (IsFirstFault bound task.leg proof)
    fault-answers bound rests (Ok flaw) is =
        fault-of bound rests flaw
        (flaw-alike (rules_of task) (leg_rules task.leg task.low) proof.cost proof.entries.items
        (plain-alike proof.cost proof.entries.items) flaw is)
    fault-answers bound rests (Err e) is = is

  -- a walk of at most 2^32 links costs below 2^113
  pub cost-fits : IsTask task → (proof : Proof) → IsWalkOf task.leg proof → length proof.walk.items ≤ 2 ^ 32 →
      proof.cost < 2 ^ 113
  cost-fits lawful proof walk few =
      omega (
        arith,
        walk-fits task lawful task.leg.target proof.walk.items walk.is_walk few,
        cost-plain proof.walk.items,
        walk.cost,
      )

-- ---- Faults

-- where all conditions hold, none fails
pub fault-none : (bound : LowerBound) (leg : Leg) (proof : Proof) → ShowsLeast bound leg proof → (why : Why) →
    IsFirstFault bound leg proof (Some why) → ⊥
fault-none bound leg proof all Legs is = is
fault-none bound leg proof all Walk is = is all.sound.walk
fault-none bound leg proof all Bounds is = is.1 all.sound.bounds
fault-none bound leg proof all Start is =
    is.flaw (all.closed is.low is.rests).starts
fault-none bound leg proof all Step is =
    is.flaw.1 (all.closed is.low is.rests).steps
fault-none bound leg proof all Goal is =
    is.flaw.2 (all.closed is.low is.rests).goals
