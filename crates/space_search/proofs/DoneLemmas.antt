-- Where a run ends among closed labels, and what a run costs at most.
use Rattle.std.proofs.Common.{◌≡◌, ℕ, ◌<◌, ◌≤◌, ◌+◌, ◌*◌, ◌⊎◌, inl, inr, List, length, Option, Some, None, refl, arith, sym, ◌∙◌}
use Rattle.std.specs.Bool.{IsTrue}
use Rattle.space_search.specs.Laws.{IsSpace, HasEvenBound, IsBlind, IsDearest}
use Rattle.space_search.specs.Rules.{Rules}
use Rattle.space_search.specs.Runs.{Walks, rests, steps, IsRun, starts}
use Rattle.space_search.specs.Turns.{IsCoveredBy, IsDone, covered, hopeless, ranks, IsClosedAndOrdered}
use Rattle.space_search.specs.View.{Reached}
use Rattle.space_search.proofs.LeastLemmas.{CoversStep, step-along, walks-valid}

module _ {S : Type 0} (rules : Rules S) (laws : IsSpace rules) (even : HasEvenBound rules) (labels : List (Reached S))
    (floor : Option ℕ) (closed : IsClosedAndOrdered rules labels floor) where
  -- what a state covers that is done with is done with
  done-under :
      (a b : S) (ca cb : ℕ) → IsTrue (rules.is_valid a) → IsTrue (rules.is_valid b) → IsTrue (rules.covers a ca b cb) →
      IsDone rules labels floor a ca → IsDone rules labels floor b cb
  done-under a b ca cb va vb h (covered c) =
      covered (
      record {
        place = c.place;
        label = c.label;
        there = c.there;
        covers =
            laws.covering.through c.label.state a b c.label.cost ca cb (closed.ordered.each c.place c.label c.there).valid va vb
            c.covers h;
      }
      )
  done-under a b ca cb va vb h (hopeless none) = hopeless (sym (even.alike a b ca cb va vb h) ∙ none)
  done-under a b ca cb va vb h (ranks bound rank is r up) =
      ranks bound (cb + r.low) is
      (record { low = r.low; is = sym (even.alike a b ca cb va vb h) ∙ r.is; sum = refl })
      (omega (arith, r.sum, up, laws.covering.cheaper a b ca cb va vb h))

  -- a permitted step of a state that is done with leads to one that is
  done-step :
      (state : S) (cost number : ℕ) (next : S) (more : ℕ) → IsTrue (rules.is_valid state) → number < rules.steps state →
      rules.step state number ≡ Some (next, more) → IsDone rules labels floor state cost →
      IsDone rules labels floor next (cost + more)
  done-step state cost number next more valid within is (covered c) =
      let over : IsTrue (rules.is_valid c.label.state) = (closed.ordered.each c.place c.label c.there).valid in
      let same : rules.steps c.label.state ≡ rules.steps state =
      laws.alike.steps c.label.state state c.label.cost cost over valid c.covers in
      let inside : number < rules.steps c.label.state = omega (arith, same) in
      let s : CoversStep rules laws c.label.state c.label.cost number next (cost + more) =
      step-along rules laws c.label.state state c.label.cost cost over valid c.covers number next more within is in
      done-under s.state next (c.label.cost + s.cost) (cost + more)
      (laws.moves.steps c.label.state number s.state s.cost over inside s.is).valid
      (laws.moves.steps state number next more valid within is).valid s.covers
      (closed.steps c.place c.label number s.state s.cost c.there inside s.is)
  done-step state cost number next more valid within is (hopeless none) =
      hopeless (even.stays state number next more valid within is none)
  done-step state cost number next more valid within is (ranks bound rank floor_is r up) =
      elim (rules.low next) as (λ l. rules.low next ≡ l → IsDone rules labels floor next (cost + more)) [
        | None ↦ λ none. hopeless none
        | Some after ↦ λ some.
            ranks bound (cost + more + after) floor_is (record { low = after; is = some; sum = refl })
            (omega (arith, r.sum, up, laws.bound.step state number next more r.low after valid within is r.is some))
      ] refl

  -- and so does a walk
  done-walk :
      {state end : S} {cost total : ℕ} {numbers : List ℕ} → IsTrue (rules.is_valid state) →
      Walks rules state cost numbers end total → IsDone rules labels floor state cost → IsDone rules labels floor end total
  done-walk valid rests done = done
  done-walk valid (steps {state = state} {next = next} {cost = cost} {more = more} {number = number} within is walk) done =
      done-walk (laws.moves.steps state number next more valid within is).valid walk
      (done-step state cost number next more valid within is done)

  -- the end of each run is done with
  pub done-run : {end : S} {choices : List ℕ} {cost : ℕ} → IsRun rules choices end cost → IsDone rules labels floor end cost
  done-run (starts {state = state} {cost = first} {number = number} within is walk) =
      done-walk (laws.moves.starts number state first within is).valid walk (closed.starts number state first within is)

module _ {S : Type 0} (rules : Rules S) (laws : IsSpace rules) where
  -- a run ends at a valid state
  pub run-valid : {end : S} {choices : List ℕ} {cost : ℕ} → IsRun rules choices end cost → IsTrue (rules.is_valid end)
  run-valid (starts {state = state} {cost = first} {number = number} within is walk) =
      walks-valid rules laws (laws.moves.starts number state first within is).valid walk

  module _ (blind : IsBlind rules) where
    -- a bound of 0 everywhere is an even one
    even-blind : HasEvenBound rules
    even-blind =
        record {
          alike = λ a b ca cb va vb h. blind a va ∙ sym (blind b vb);
          stays = λ from number state cost valid within is none. let some : rules.low from ≡ Some 0 = blind from valid in cc;
        }

    -- the end of a run is covered, or the run costs at least the floor
    below-floor :
        (labels : List (Reached S)) (floor : ℕ) (end : S) (cost : ℕ) → IsTrue (rules.is_valid end) →
        IsDone rules labels (Some floor) end cost → IsCoveredBy rules labels end cost ⊎ (floor ≤ cost)
    below-floor labels floor end cost valid (covered c) = inl c
    below-floor labels floor end cost valid (hopeless none) =
        let some : rules.low end ≡ Some 0 = blind end valid in
        let never : ⊥ = cc in
        absurd never
    below-floor labels floor end cost valid (ranks bound rank is r up) =
        let some : rules.low end ≡ Some 0 = blind end valid in
        let one : Some r.low ≡ Some 0 = sym r.is ∙ some in
        let none : r.low ≡ 0 = cc in
        let same : floor ≡ bound = cc in
        inr (omega (arith, r.sum, up, none, same))

    -- a run is covered by one of the closed labels, or costs at least their floor
    pub run-below_floor :
        (labels : List (Reached S)) (floor : ℕ) → IsClosedAndOrdered rules labels (Some floor) →
        {end : S} {choices : List ℕ} {cost : ℕ} → IsRun rules choices end cost →
        IsCoveredBy rules labels end cost ⊎ (floor ≤ cost)
    run-below_floor labels floor closed {end} {choices} {cost} run =
        below-floor labels floor end cost (run-valid run) (done-run rules laws even-blind labels (Some floor) closed run)

  module _ (dearest : ℕ) (is_dearest : IsDearest rules dearest) where
    -- a walk costs at most so much a step
    walk-cost :
        {state end : S} {cost total : ℕ} {numbers : List ℕ} → IsTrue (rules.is_valid state) →
        Walks rules state cost numbers end total → total ≤ cost + length numbers * dearest
    walk-cost valid rests = omega arith
    walk-cost valid
        (steps {state = state} {next = next} {end = end} {cost = cost} {more = more} {total = total} {number = number} {numbers = numbers}
        within is walk) =
        let rest : total ≤ cost + more + length numbers * dearest =
        walk-cost (laws.moves.steps state number next more valid within is).valid walk in
        omega (arith, rest, is_dearest.steps state number next more valid within is)

    -- a run costs at most so much a choice
    pub cost-run : {end : S} {choices : List ℕ} {cost : ℕ} → IsRun rules choices end cost → cost ≤ length choices * dearest
    cost-run {cost = cost} (starts {state = state} {cost = first} {number = number} {numbers = numbers} within is walk) =
        let rest : cost ≤ first + length numbers * dearest =
        walk-cost (laws.moves.starts number state first within is).valid walk in
        omega (arith, rest, is_dearest.starts number state first within is)
