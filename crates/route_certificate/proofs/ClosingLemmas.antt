-- What is said of a list of labels over one space is said over another that answers alike, and a list of which all
-- parts hold is a closed one.
use Rattle.std.proofs.Common.{◌≡◌, ◌↔◌, ℕ, ◌+◌, ◌<◌, ◌≤◌, List, Option, Some, None, IsTrue, sym, ◌∙◌, subst, arith}
use Rattle.std.specs.List.{slice_get}
use Rattle.certificate_text.specs.declared.certificate.Entry.{Entry}
use Rattle.cost_model.specs.declared.parts.Carry.{Carry}
use Rattle.space_search.specs.Rules.{Rules}
use Rattle.bike_space.specs.Closed.{Entry as Labelled, IsClosedList, IsCoveredBelow, IsDear, covered, dear}
use Rattle.route_certificate.specs.Closing.{Closes, ClosesGoals, ClosesStarts, ClosesSteps, IsFirstFlaw}
use Rattle.route_certificate.specs.Entries.{AreBounded, carry_of, label_of, labels_of}
use Rattle.route_certificate.specs.declared.verdict.Why.{Why}
use Rattle.route_certificate.specs.declared.verdict.Why.TheVariants.{Legs, Walk, Bounds, Start, Step, Goal}
use Rattle.route_certificate.proofs.EntryLemmas.{label-of, of-label}

-- ---- Two spaces that answer alike

-- a state is dear in both or in neither, at whatever cost
abbrev pub AreDearAlike : (r s : Rules Carry) (least : ℕ) → Carry → Type 0
AreDearAlike r s least state = (cost : ℕ) → IsDear r least state cost ↔ IsDear s least state cost

-- two spaces answer alike; what is dear is asked for behind starts and behind the steps of labels alone
pub record Alike (r s : Rules Carry) (least : ℕ) (entries : List Entry) : Type 0 where
  pub starts : r.starts ≡ s.starts
  pub start : (number : ℕ) → r.start number ≡ s.start number
  pub steps : (state : Carry) → r.steps state ≡ s.steps state
  pub step : (state : Carry) (number : ℕ) → r.step state number ≡ s.step state number
  pub goal : (state : Carry) → r.is_goal state ≡ s.is_goal state
  pub covers : (a : Carry) (ca : ℕ) (b : Carry) (cb : ℕ) → r.covers a ca b cb ≡ s.covers a ca b cb
  pub start_dear :
      (number : ℕ) (state : Carry) (cost : ℕ) → number < r.starts → r.start number ≡ Some (state, cost) →
      AreDearAlike r s least state
  pub step_dear :
      (place : ℕ) (entry : Entry) → slice_get entries place ≡ Some entry →
      (number : ℕ) (state : Carry) (cost : ℕ) → number < r.steps (carry_of entry) →
      r.step (carry_of entry) number ≡ Some (state, cost) → AreDearAlike r s least state

-- so they do the other way round
alike-back : (r s : Rules Carry) (least : ℕ) (entries : List Entry) → Alike r s least entries → Alike s r least entries
alike-back r s least entries a = record {
  starts = sym a.starts;
  start = λ number. sym (a.start number);
  steps = λ state. sym (a.steps state);
  step = λ state number. sym (a.step state number);
  goal = λ state. sym (a.goal state);
  covers = λ x cx y cy. sym (a.covers x cx y cy);
  start_dear = λ number state cost within is at.
      let both = a.start_dear number state cost (omega (arith, within, a.starts)) (a.start number ∙ is) at in (both.1, both.0);
  step_dear = λ place entry there number state cost within is at.
      let both = a.step_dear place entry there number state cost (omega (arith, within, a.steps (carry_of entry)))
      (a.step (carry_of entry) number ∙ is) at in (both.1, both.0);
}

-- what is covered in the one is covered in the other
covered-alike : (r s : Rules Carry) (least : ℕ) (own : List Entry) → Alike r s least own → (entries : List (Labelled Carry))
    (state : Carry) (cost : ℕ) → AreDearAlike r s least state →
    IsCoveredBelow r least entries state cost → IsCoveredBelow s least entries state cost
covered-alike r s least own a entries state cost same (covered c) =
    covered (record {
      entry = c.entry;
      there = c.there;
      covers = sym (a.covers c.entry.0 c.entry.1 state cost) ∙ c.covers;
    })
covered-alike r s least own a entries state cost same (dear much) = dear ((same cost).0 much)

module _ (r s : Rules Carry) (least : ℕ) (entries : List Entry) (a : Alike r s least entries) where
  -- each part that holds in the one holds in the other
  starts-alike : ClosesStarts r least entries → ClosesStarts s least entries
  starts-alike closes = λ number state cost within is.
      let inside : number < r.starts = omega (arith, within, a.starts) in
      let here = a.start number ∙ is in
      covered-alike r s least entries a (labels_of entries) state cost (a.start_dear number state cost inside here)
      (closes number state cost inside here)

  steps-alike : ClosesSteps r least entries → ClosesSteps s least entries
  steps-alike closes = λ place entry there number state cost within is.
      let inside : number < r.steps (carry_of entry) = omega (arith, within, a.steps (carry_of entry)) in
      let here = a.step (carry_of entry) number ∙ is in
      covered-alike r s least entries a (labels_of entries) state (entry.cost + cost)
      (a.step_dear place entry there number state cost inside here)
      (closes place entry there number state cost inside here)

  goals-alike : ClosesGoals r least entries → ClosesGoals s least entries
  goals-alike closes = λ place entry there goal. closes place entry there (a.goal (carry_of entry) ∙ goal)

-- the first part that fails is the same
pub flaw-alike : (r s : Rules Carry) (least : ℕ) (entries : List Entry) → Alike r s least entries → (flaw : Option Why) →
    IsFirstFlaw r least entries flaw → IsFirstFlaw s least entries flaw
flaw-alike r s least entries a None is = record {
  starts = starts-alike r s least entries a is.starts;
  steps = steps-alike r s least entries a is.steps;
  goals = goals-alike r s least entries a is.goals;
}
flaw-alike r s least entries a (Some Legs) fails = fails
flaw-alike r s least entries a (Some Walk) fails = fails
flaw-alike r s least entries a (Some Bounds) fails = fails
flaw-alike r s least entries a (Some Start) fails =
    λ closes. fails (starts-alike s r least entries (alike-back r s least entries a) closes)
flaw-alike r s least entries a (Some Step) fails = (
  starts-alike r s least entries a fails.0,
  λ closes. fails.1 (steps-alike s r least entries (alike-back r s least entries a) closes),
)
flaw-alike r s least entries a (Some Goal) fails = (
  starts-alike r s least entries a fails.0,
  steps-alike r s least entries a fails.1,
  λ closes. fails.2 (goals-alike s r least entries (alike-back r s least entries a) closes),
)

-- ---- A closed list

-- a list of which all parts hold is closed
pub closed-list : (rules : Rules Carry) (least : ℕ) (entries : List Entry) → AreBounded rules entries →
    Closes rules least entries → IsClosedList rules least (labels_of entries)
closed-list rules least entries bounded closes = record {
  valid = λ label there.
      let s = label-of entries label there in
      subst (λ (e : Labelled Carry). IsTrue (rules.is_valid e.0)) s.is (bounded s.place s.entry s.there).valid;
  starts = closes.starts;
  steps = λ label number state cost there within is.
      let s = label-of entries label there in
      let P : Labelled Carry → Type 0 = λ (e : Labelled Carry). number < rules.steps e.0 →
      rules.step e.0 number ≡ Some (state, cost) →
      IsCoveredBelow rules least (labels_of entries) state (e.1 + cost) in
      subst P s.is (λ below step. closes.steps s.place s.entry s.there number state cost below step) within is;
  goals = λ label there goal.
      let s = label-of entries label there in
      let P : Labelled Carry → Type 0 = λ (e : Labelled Carry). IsTrue (rules.is_goal e.0) → least ≤ e.1 in
      subst P s.is (closes.goals s.place s.entry s.there) goal;
}

-- and of a closed list all parts hold
pub list-closes : (rules : Rules Carry) (least : ℕ) (entries : List Entry) → IsClosedList rules least (labels_of entries) →
    Closes rules least entries
list-closes rules least entries list = record {
  starts = list.starts;
  steps = λ place entry there number state cost inside is.
      list.steps (label_of entry) number state cost (of-label entries place entry there) inside is;
  goals = λ place entry there goal. list.goals (label_of entry) (of-label entries place entry there) goal;
}
