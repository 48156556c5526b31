-- The parts of a closed list of labels, in the order in which they are tried (this project's own rule).
use Rattle.std.specs.Prelude.{ℕ, ◌≡◌, ◌<◌, ◌≤◌, ◌+◌, IsTrue, List, Option, Some, None}
use Rattle.std.specs.List.{slice_get}
use Rattle.certificate_text.specs.declared.certificate.Entry.{Entry}
use Rattle.cost_model.specs.declared.parts.Carry.{Carry}
use Rattle.space_search.specs.Rules.{Rules}
use Rattle.bike_space.specs.Closed.{IsCoveredBelow}
use Rattle.route_certificate.specs.Entries.{carry_of, labels_of}
use Rattle.route_certificate.specs.declared.verdict.Why.{Why}
use Rattle.route_certificate.specs.declared.verdict.Why.TheVariants.{Legs, Walk, Bounds, Start, Step, Goal}

-- what each start gives is covered by a label, or ranks at least so much
abbrev pub ClosesStarts : (rules : Rules Carry) (least : ℕ) (entries : List Entry) → Type 0
ClosesStarts rules least entries =
    (number : ℕ) (state : Carry) (cost : ℕ) → number < rules.starts → rules.start number ≡ Some (state, cost) →
    IsCoveredBelow rules least (labels_of entries) state cost

-- what each step of a label gives is covered by a label, or ranks at least so much
abbrev pub ClosesStepsOf : (rules : Rules Carry) (least : ℕ) (entries : List Entry) (entry : Entry) → Type 0
ClosesStepsOf rules least entries entry =
    (number : ℕ) (state : Carry) (cost : ℕ) → number < rules.steps (carry_of entry) →
    rules.step (carry_of entry) number ≡ Some (state, cost) →
    IsCoveredBelow rules least (labels_of entries) state (entry.cost + cost)

-- so it is of each label
abbrev pub ClosesSteps : (rules : Rules Carry) (least : ℕ) (entries : List Entry) → Type 0
ClosesSteps rules least entries =
    (place : ℕ) (entry : Entry) → slice_get entries place ≡ Some entry → ClosesStepsOf rules least entries entry

-- a label that is a goal costs at least so much
abbrev pub IsNoCheapGoal : (rules : Rules Carry) (least : ℕ) (entry : Entry) → Type 0
IsNoCheapGoal rules least entry = IsTrue (rules.is_goal (carry_of entry)) → least ≤ entry.cost

-- so it is of each label
abbrev pub ClosesGoals : (rules : Rules Carry) (least : ℕ) (entries : List Entry) → Type 0
ClosesGoals rules least entries =
    (place : ℕ) (entry : Entry) → slice_get entries place ≡ Some entry → IsNoCheapGoal rules least entry

-- all parts hold
pub record Closes (rules : Rules Carry) (least : ℕ) (entries : List Entry) : Type 0 where
  pub starts : ClosesStarts rules least entries
  pub steps : ClosesSteps rules least entries
  pub goals : ClosesGoals rules least entries

-- the first part that fails; none where the list is closed
abbrev pub IsFirstFlaw : (rules : Rules Carry) (least : ℕ) (entries : List Entry) → Option Why → Type 0
IsFirstFlaw rules least entries None = Closes rules least entries
IsFirstFlaw rules least entries (Some Legs) = ⊥
IsFirstFlaw rules least entries (Some Walk) = ⊥
IsFirstFlaw rules least entries (Some Bounds) = ⊥
IsFirstFlaw rules least entries (Some Start) = ClosesStarts rules least entries → ⊥
IsFirstFlaw rules least entries (Some Step) =
    ClosesStarts rules least entries × (ClosesSteps rules least entries → ⊥)
IsFirstFlaw rules least entries (Some Goal) =
    ClosesStarts rules least entries × ClosesSteps rules least entries × (ClosesGoals rules least entries → ⊥)
