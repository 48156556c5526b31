-- The code of an expression gives the expression's value.
use Rattle.std.proofs.Common.{◌≡◌, ℕ, ◌≤◌, Bool, List, ℤ, Option, None, Result, refl, arith}
use Rattle.context_check.proofs.CallerLemmas.{names_of, option_or-none}
use Rattle.context_check.specs.Context.{Context}
use Rattle.context_check.specs.Refusal.{look_refusal, expr_refusal}
use Rattle.lookup_table.specs.Tag.{TagRow}
use Rattle.profile_code.proofs.KnownLemmas.{gives_variable, look_code, look_result}
use Rattle.profile_code.proofs.NameLemmas.{numbers_of}
use Rattle.profile_code.proofs.OperatorLemmas.{Gives, gives_number, gives_not, gives_operation, gives_choice}
use Rattle.profile_code.specs.Emit.{expr_code, height_of}
use Rattle.profile_code.specs.Machine.{Given}
use Rattle.profile_code.specs.declared.instr.Instr.{Instr}
use Rattle.profile_code.specs.declared.instr.Instr.TheVariants.{Number}
use Rattle.profile_text.specs.Meaning.{Fault, variable_in, value_of}
use Rattle.profile_text.specs.Tree.{Tree, Constant, Variable, TagLook, Negation, Operation, Choice}
use Rattle.profile_text.specs.declared.kind.Section.{Section}

-- an expression has a number on the stack at least
pub height_some : (t : Tree) → 1 ≤ height_of t
height_some (Constant n) = omega arith
height_some (Variable name line) = omega arith
height_some (TagLook tag values line) = omega arith
height_some (Negation a) = height_some a
height_some (Operation op a b) = omega (arith, height_some a)
height_some (Choice a b c) = omega (arith, height_some a)

-- what the code of a section runs in: what its run is given; the section, with the tags that its looks may name; those
-- that its code knows; what looks come to; and the values of the global section
pub record Setting : Type 0 where
  pub given : Given
  pub section : Section
  pub known_rows : Option (List TagRow)
  pub rows : List TagRow
  pub looks : List ℕ → List (List ℕ) → Option Bool
  pub global : List (List ℕ × ℤ)

-- what its expressions may name
abbrev pub context : Setting → Context
context s = record { section = s.section; rows = s.known_rows; global = names_of s.global }

-- the code of an expression, after these values of its section
abbrev pub code_in : Setting → List (List ℕ × ℤ) → Tree → List Instr
code_in s own t = expr_code s.rows (names_of s.global) (names_of own) t

-- its value
abbrev pub value_in : Setting → List (List ℕ × ℤ) → Tree → Result ℤ Fault
value_in s own t = value_of (variable_in s.global own) s.looks t

-- the run is given the global values, and the code of looks gives what they come to, wherever nothing is at fault
pub record IsSetting (s : Setting) : Type 0 where
  pub is : s.given.global ≡ numbers_of s.global
  pub gives :
      (own : List ℤ) (tag : List ℕ) (values : List (List ℕ)) (line : ℕ) →
      look_refusal s.known_rows tag values line ≡ None →
      Gives s.given own 1 (look_code s.rows tag values) (look_result line (s.looks tag values))

-- the code of an expression in which nothing is at fault gives its value
pub gives_tree : (s : Setting) (own : List (List ℕ × ℤ)) (t : Tree) → IsSetting s → expr_refusal (context s) (names_of own) t ≡ None →
    Gives s.given (numbers_of own) (height_of t) (code_in s own t) (value_in s own t)
gives_tree s own (Constant n) is none = gives_number s.given (numbers_of own) (Number n) n (λ next stack. refl)
gives_tree s own (Variable name line) is none = gives_variable s.given s.global own name line is.is none
gives_tree s own (TagLook tag values line) is none = is.gives (numbers_of own) tag values line none
gives_tree s own (Negation a) is none =
    gives_not s.given (numbers_of own) (height_of a) _ _ (gives_tree s own a is none)
gives_tree s own (Operation op a b) is none =
    let parts = option_or-none (expr_refusal (context s) (names_of own) a) _ none in
    gives_operation s.given (numbers_of own) (height_of a) (height_of b) op _ _ _ _
    (gives_tree s own a is parts.0)
    (gives_tree s own b is parts.1)
    (height_some a)
gives_tree s own (Choice a b c) is none =
    let parts = option_or-none (expr_refusal (context s) (names_of own) a) _ none in
    let arms = option_or-none (expr_refusal (context s) (names_of own) b) _ parts.1 in
    gives_choice s.given (numbers_of own) (height_of a) (height_of b) (height_of c) _ _ _ _ _ _
    (gives_tree s own a is parts.0)
    (gives_tree s own b is arms.0)
    (gives_tree s own c is arms.1)
