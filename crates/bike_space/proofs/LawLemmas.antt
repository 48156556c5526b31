-- The space of a lawful search on a leg keeps the laws of a space.
use Rattle.std.proofs.Common.{◌≡◌, ℕ, ◌+◌, ◌-◌, ◌<◌, ◌≤◌, ◌^◌, nat_eq, List, length, Option, Some, None, IsTrue, refl, sym, ap, ◌∙◌, subst, arith}
use Rattle.std.proofs.lemmas.Bool.Decides.{nat_tests}
use Rattle.elev_buffer.specs.Covers.{covers_label}
use Rattle.elev_buffer.specs.declared.labels.Pair.{Pair}
use Rattle.cost_model.specs.Labels.{label_of}
use Rattle.cost_model.specs.Modes.{AllowsFacts, modes_before}
use Rattle.cost_model.specs.Parts.{IsHeld}
use Rattle.cost_model.specs.Walks.{empty_pair, pair_of}
use Rattle.cost_model.specs.declared.facts.LinkFacts.{LinkFacts}
use Rattle.cost_model.specs.declared.parts.Carry.{Carry}
use Rattle.cost_model.proofs.CallerLemmas.{cost-below, covers-carried, empty-held, held-after, label-cheaper, label-itself, label-through, modes-allow}
use Rattle.overpass_graph.specs.Roads.{out_links}
use Rattle.overpass_graph.proofs.CallerLemmas.{out-sound}
use Rattle.space_search.specs.Laws.{HasBound, HasCovering, HasEvenBound, HasMoves, CoveredAlike, IsDearest, IsSpace, KeepsCovering}
use Rattle.space_search.specs.Runs.{Walks, rests, steps}
use Rattle.bike_space.specs.Spent.{terms_of}
use Rattle.bike_space.specs.Tasks.{Task, chosen, covers_carry, entered, is_carried, may_take, price_of, rules_of}
use Rattle.bike_space.specs.Lawful.{IsTask, MayGoOn}
use Rattle.bike_space.proofs.WalkLemmas.{entered-is}
use Rattle.bike_space.proofs.CarryLemmas.{carried-is, is-carried, covered-slot, covered-under, covers-parts, parts-cover, slot-one_of, some-is, step-is}
use Rattle.std.proofs.lemmas.Option.{cond_some}

module _ (task : Task) (lawful : IsTask task) where
  -- what is carried from a link that is entered is a state, and entering it costs below 2^81
  entered-move : (before : Option LinkFacts) (link : ℕ) (pair : Pair) → link < task.leg.ride.roads.links →
      IsHeld task.leg.ride.prices pair →
      IsTrue (is_carried task.leg (entered task before link pair).0) × ((entered task before link pair).1 < 2 ^ 81)
  unfolding entered
  entered-move before link pair within held =
      let facts = lawful.facts link within in (
        is-carried task.leg _ within (held-after task.leg.ride.prices link (task.leg.ride.facts link) pair lawful.prices facts
            held),
        cost-below task.leg.ride.prices (task.used link) before (task.leg.ride.facts link) pair lawful.prices facts held,
      )

  -- so is what a start gives
  pub start-move : (number : ℕ) (state : Carry) (cost : ℕ) → number < (rules_of task).starts →
      (rules_of task).start number ≡ Some (state, cost) → IsTrue (is_carried task.leg state) × (cost < 2 ^ 81)
  start-move number state cost within is =
      let out = out-sound task.leg.ride.roads task.leg.start number within in
      let p = cond_some _ _ _ is in
      let P : Carry × ℕ → Type 0 = λ e. IsTrue (is_carried task.leg e.0) × (e.1 < 2 ^ 81) in
      subst P p.1 (entered-move None _ empty_pair out.0 (empty-held task.leg.ride.prices lawful.prices))

  -- and what a step gives
  pub step-move : (from : Carry) (number : ℕ) (state : Carry) (cost : ℕ) → IsTrue (is_carried task.leg from) →
      number < (rules_of task).steps from → (rules_of task).step from number ≡ Some (state, cost) →
      IsTrue (is_carried task.leg state) × (cost < 2 ^ 81)
  step-move from number state cost valid within step =
      let s = step-is task from from.link number state cost refl within step in
      let P : Carry × ℕ → Type 0 = λ e. IsTrue (is_carried task.leg e.0) × (e.1 < 2 ^ 81) in
      subst P s.is (entered-move (Some (task.leg.ride.facts from.link)) _ (pair_of from) s.within
      (carried-is task.leg from valid).1)

  -- starts and steps lead to states at a bounded cost
  has-moves : HasMoves (rules_of task)
  has-moves = record {
    starts = λ number state cost within is.
        let m = start-move number state cost within is in record { valid = m.0; cheap = omega (arith, m.1) };
    steps = λ from number state cost valid within is.
        let m = step-move from number state cost valid within is in record { valid = m.0; cheap = omega (arith, m.1) };
    cell = λ state valid. (carried-is task.leg state valid).0;
    slot = λ state valid. slot-one_of task.leg state (carried-is task.leg state valid).0;
  }

  -- no start or step costs 2^81 or more
  pub is-dearest : IsDearest (rules_of task) (2 ^ 81 - 1)
  is-dearest = record {
    starts = λ number state cost within is. let m = start-move number state cost within is in omega (arith, m.1);
    steps = λ from number state cost valid within is. let m = step-move from number state cost valid within is in
        omega (arith, m.1);
  }

  -- ---- Covering

  -- covering is an order within a link
  has-covering : HasCovering (rules_of task)
  has-covering = record {
    one_slot = λ a b ca cb va vb h. covered-slot task.leg a b ca cb h;
    itself = λ a ca va. parts-cover task.leg a a ca ca refl
        (label-itself task.leg.ride.prices _ a a ca ca refl (omega arith));
    through = λ a b c ca cb cost va vb vc p q.
        let first = covers-parts task.leg a b ca cb p in
        let second = covers-parts task.leg b c cb cost q in
        parts-cover task.leg a c ca cost (first.0 ∙ second.0)
        (label-through task.leg.ride.prices _ a b c ca cb cost lawful.prices first.1 second.1);
    cheaper = λ a b ca cb va vb h. label-cheaper task.leg.ride.prices _ a b ca cb lawful.prices
        (covers-parts task.leg a b ca cb h).1;
    under = λ a b ca cb va vb h. covered-under task.leg a b ca cb lawful.prices h;
  }

  -- the modes of the leg allow the facts of each of its links
  modes-of-leg : (link : ℕ) → link < task.leg.ride.roads.links →
      AllowsFacts (modes_before task.leg.ride.facts task.leg.ride.roads.links) (task.leg.ride.facts link)
  modes-of-leg link within = modes-allow task.leg.ride.facts task.leg.ride.roads.links link within

  -- the covering of two states of one link is kept when both enter the same link
  entered-covers : (before : Option LinkFacts) (link : ℕ) (a b : Carry) (ca cb : ℕ) → link < task.leg.ride.roads.links →
      IsHeld task.leg.ride.prices (pair_of a) → IsHeld task.leg.ride.prices (pair_of b) →
      IsTrue (covers_label (terms_of task.leg) (label_of a ca) (label_of b cb)) →
      IsTrue (covers_carry task.leg (entered task before link (pair_of a)).0
      (ca + (entered task before link (pair_of a)).1)
      (entered task before link (pair_of b)).0 (cb + (entered task before link (pair_of b)).1))
  unfolding entered
  entered-covers before link a b ca cb within held holds covers =
      parts-cover task.leg _ _ _ _ refl
      (covers-carried task.leg.ride.prices (modes_before task.leg.ride.facts task.leg.ride.roads.links) (task.used link) before
      (task.leg.ride.facts link)
      lawful.prices (lawful.facts link within) (modes-of-leg link within) link a b ca cb held holds covers)

  -- covering is kept by every step
  keeps-covering : KeepsCovering (rules_of task)
  keeps-covering a b ca cb va vb h number within first second more other p q =
      let parts = covers-parts task.leg a b ca cb h in
      let P : ℕ → Type 0 = λ l. number < length (out_links task.leg.ride.roads (task.leg.ride.roads.to l)) in
      let s = step-is task a b.link number first more parts.0 (subst P (sym parts.0) within) p in
      let t = step-is task b b.link number second other refl within q in
      let Q : Carry × ℕ → Type 0 = λ e. IsTrue (covers_carry task.leg e.0 (ca + e.1) second (cb + other)) in
      let R : Carry × ℕ → Type 0 = λ e. IsTrue (covers_carry task.leg
      (entered task (Some (task.leg.ride.facts b.link)) (chosen task.leg.ride.roads (task.leg.ride.roads.to b.link) number)
      (pair_of a)).0
      (ca + (entered task (Some (task.leg.ride.facts b.link)) (chosen task.leg.ride.roads (task.leg.ride.roads.to b.link) number)
      (pair_of a)).1)
      e.0 (cb + e.1)) in
      subst Q s.is (subst R t.is
      (entered-covers (Some (task.leg.ride.facts b.link)) _ a b ca cb t.within (carried-is task.leg a va).1
      (carried-is task.leg b vb).1 parts.1))

  -- states of one link have the same steps and are goals alike
  covered-alike : CoveredAlike (rules_of task)
  covered-alike = record {
    steps = λ a b ca cb va vb h.
        ap (λ l. length (out_links task.leg.ride.roads (task.leg.ride.roads.to l))) (covers-parts task.leg a b ca cb h).0;
    permitted = λ a b ca cb va vb h number within.
        some-is _ _
        ∙ ap (λ l. may_take task.leg l (chosen task.leg.ride.roads (task.leg.ride.roads.to l) number))
        (covers-parts task.leg a b ca cb h).0
        ∙ sym (some-is _ _);
    goal = λ a b ca cb va vb h. ap (λ l. nat_eq (task.leg.ride.roads.to l) task.leg.target)
        (covers-parts task.leg a b ca cb h).0;
  }

  -- ---- The bound

  -- a step goes on by a link, and costs what it costs to enter that
  record IsEntry (from : Carry) (link cost : ℕ) : Type 0 where
    goes_on : MayGoOn task.leg from.link link
    price : price_of task (Some (task.leg.ride.facts from.link)) link (pair_of from) ≡ cost

  -- so does each step
  step-entry : (from : Carry) (number : ℕ) (state : Carry) (cost : ℕ) → IsTrue (is_carried task.leg from) →
      number < (rules_of task).steps from → (rules_of task).step from number ≡ Some (state, cost) → IsEntry from state.link cost
  step-entry from number state cost valid within step =
      let s = step-is task from from.link number state cost refl within step in
      let link = chosen task.leg.ride.roads (task.leg.ride.roads.to from.link) number in
      let is = sym (entered-is task (Some (task.leg.ride.facts from.link)) link (pair_of from)) ∙ s.is in
      subst (λ l. IsEntry from l cost) (ap (λ (m : Carry × ℕ). m.0.link) is)
      (record {
        goes_on = record {
          last_in = (carried-is task.leg from valid).0;
          link_in = s.within;
          leaves = s.leaves;
          taken = s.taken;
        };
        price = ap (λ (m : Carry × ℕ). m.1) is;
      })

  -- at a goal nothing has still to be paid
  goal-low : (state : Carry) → IsTrue (is_carried task.leg state) → IsTrue ((rules_of task).is_goal state) →
      (rules_of task).low state ≡ Some 0
  goal-low state valid goal =
      let is : IsTrue (nat_eq (task.leg.ride.roads.to state.link) task.leg.target) = goal in
      lawful.bound.target state.link (carried-is task.leg state valid).0 (grind (arith, nat_tests))

  -- where a state has no bound, none has one behind a step
  low-stays : (from : Carry) (number : ℕ) (state : Carry) (cost : ℕ) → IsTrue (is_carried task.leg from) →
      number < (rules_of task).steps from → (rules_of task).step from number ≡ Some (state, cost) →
      (rules_of task).low from ≡ None → (rules_of task).low state ≡ None
  low-stays from number state cost valid within step none =
      lawful.bound.stays from.link state.link (step-entry from number state cost valid within step).goes_on none

  -- from a state without a bound no goal is reached
  hopeless : {state end : Carry} {cost total : ℕ} {numbers : List ℕ} → IsTrue (is_carried task.leg state) →
      (rules_of task).low state ≡ None → Walks (rules_of task) state cost numbers end total →
      IsTrue ((rules_of task).is_goal end) → ⊥
  hopeless {state = state} valid none rests goal =
      let some = goal-low state valid goal in
      let never : ⊥ = cc in
      never
  hopeless {state = state} valid none (steps {next = next} {more = more} {number = number} within is rest) goal =
      hopeless (step-move state number next more valid within is).0
      (low-stays state number next more valid within is none) rest goal

  -- the bound is bounded, 0 at a goal, and falls along a step by no more than that costs
  has-bound : HasBound (rules_of task)
  has-bound = record {
    small = λ state low valid is. lawful.bound.small state.link low (carried-is task.leg state valid).0 is;
    goal = λ state valid goal. goal-low state valid goal;
    hopeless = λ state end cost total numbers valid none walk goal. hopeless valid none walk goal;
    step = λ from number state cost before after valid within is first second.
        let e = step-entry from number state cost valid within is in
        let falls =
        lawful.bound.falls from.link state.link before after (pair_of from) e.goes_on (carried-is task.leg from valid).1 first second in
        omega (arith, falls, e.price);
  }

  -- the space keeps the laws
  pub keeps-laws : IsSpace (rules_of task)
  keeps-laws = record {
    moves = has-moves;
    covering = has-covering;
    kept = keeps-covering;
    alike = covered-alike;
    bound = has-bound;
  }

  -- states that cover one another have one bound, and where it is none it is none behind every step
  pub even-bound : HasEvenBound (rules_of task)
  even-bound = record {
    alike = λ a b ca cb va vb h. ap task.low (covers-parts task.leg a b ca cb h).0;
    stays = λ from number state cost valid within is none. low-stays from number state cost valid within is none;
  }
