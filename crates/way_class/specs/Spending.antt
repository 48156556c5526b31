-- What binding spends of a budget, and what is left to be spent (this project's own rule).
use Rattle.std.specs.Prelude.{◌≡◌, ◌<◌, ◌≤◌, ℕ, suc, ◌+◌, ◌-◌, ◌*◌, ◌/◌, max, min, length}
use Rattle.profile_code.specs.Flat.{Flat}

-- what an evaluation counts besides its way or its node: it grows with the length of the code, up to a million
unfoldable pub weight_of : Flat → ℕ
weight_of flat = min (max (length flat.way.instrs) (length flat.node.instrs) / 64) 1000000 + 1

-- so much of a budget is left where what was spent grew so: it is counted exactly while some is left; else all was
-- used, and no more than one evaluation besides
pub record Spends (weight budget left before after : ℕ) : Type 0 where
  pub fits : left ≤ budget
  pub counted : 0 < left → after + left ≡ before + budget
  pub used : left ≡ 0 → before + budget ≤ after
  pub within : after ≤ before + budget + suc weight
  pub none : budget ≡ 0 → after ≡ before

-- how far a stage is: so many of its items are done, so much was spent on them, and at most so much will be
pub record Progress : Type 0 where
  pub done : ℕ
  pub spent : ℕ
  pub rest : ℕ

-- the progress of a stage that gives so many items numbers, and each distinct vector of tag numbers a class: each
-- item counts 1, and each class an evaluation
abbrev pub classes_at : (weight most numbers classes : ℕ) → Progress
classes_at weight most numbers classes = record {
  done = numbers;
  spent = numbers + weight * classes;
  rest = suc weight * (most - numbers);
}

-- the progress of a stage each of whose items counts 1
abbrev pub items_at : (most count : ℕ) → Progress
items_at most count = record { done = count; spent = count; rest = most - count }

-- a stage of so many items went on, and left so much of a budget
pub record Advances (weight budget left most : ℕ) (before after : Progress) : Type 0 where
  pub spends : Spends weight budget left before.spent after.spent
  pub less : after.rest + after.spent ≤ before.rest + before.spent
  pub grows : before.done ≤ after.done
  pub within : after.done ≤ most

-- one class was added, or none
pub record AddsOne (before after : ℕ) : Type 0 where
  pub more : before ≤ after
  pub few : after ≤ suc before
