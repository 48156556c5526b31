-- The labels of a certificate, as states at costs (this project's own rule).
use Rattle.std.specs.Prelude.{ℕ, ◌≡◌, ◌<◌, ◌^◌, IsTrue, List, map, Some}
use Rattle.std.specs.List.{slice_get}
use Rattle.certificate_text.specs.declared.certificate.Entry.{Entry}
use Rattle.cost_model.specs.declared.parts.Carry.{Carry}
use Rattle.space_search.specs.Rules.{Rules}
use Rattle.bike_space.specs.Closed.{Entry as Labelled}

-- what a walk with this label carries
abbrev pub carry_of : Entry → Carry
carry_of entry = record { link = entry.link; down = entry.down; up = entry.up }

-- the label as a state at its cost
abbrev pub label_of : Entry → Labelled Carry
label_of entry = (carry_of entry, entry.cost)

-- the labels as states at their costs
abbrev pub labels_of : List Entry → List (Labelled Carry)
labels_of entries = map label_of entries

-- a label that may be compared: its state is one of the space, and its cost is bounded
pub record IsBounded (rules : Rules Carry) (entry : Entry) : Type 0 where
  pub valid : IsTrue (rules.is_valid (carry_of entry))
  pub small : entry.cost < 2 ^ 120

-- each label may be compared
abbrev pub AreBounded : Rules Carry → List Entry → Type 0
AreBounded rules entries =
    (place : ℕ) (entry : Entry) → slice_get entries place ≡ Some entry → IsBounded rules entry
