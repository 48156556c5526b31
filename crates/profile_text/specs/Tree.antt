-- Profiles as trees. This project's own rule.
use Rattle.std.specs.Prelude.{ℕ, List, ℤ}
use Rattle.profile_text.specs.declared.expr.Op.{Op}

-- an expression: a number; a variable with the line of its name; a look at a tag for values, with its line;
-- and what `not`, an operator of two operands and a choice make of expressions
pub data Tree : Type 0 where
  Constant : ℤ → Tree
  Variable : List ℕ → ℕ → Tree
  TagLook : List ℕ → List (List ℕ) → ℕ → Tree
  Negation : Tree → Tree
  Operation : Op → Tree → Tree → Tree
  Choice : Tree → Tree → Tree → Tree

-- an assignment, with the line of its name
pub record Assignment : Type 0 where
  pub name : List ℕ
  pub line : ℕ
  pub value : Tree

-- the assignments of the three sections, each in the order of the text
pub record Sections : Type 0 where
  pub global : List Assignment
  pub way : List Assignment
  pub node : List Assignment
