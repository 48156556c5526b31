-- What flat code does: a machine over the operations that are left, a stack and the values that were set. It
-- knows nothing of trees. This project's own rule.
use Rattle.std.specs.Prelude.{ℕ, zero, suc, not, List, [], ◌∷◌, ◌++◌, length, nat_lt, slice_get, ℤ, Option, Some, None, Result, Ok, Err, if◌then◌else◌, option_map}
use Rattle.fixed_num.specs.declared.arithmetic.Arith.{Arith}
use Rattle.profile_code.specs.declared.instr.Instr.{Instr}
use Rattle.profile_code.specs.declared.instr.Instr.TheVariants.{Number, Own, Global, Look, Not, Truth, Two, JumpZero, Jump, Set}
use Rattle.profile_text.specs.Meaning.{truth, is_true, is_listed, result_of}

-- what a run is given: how many numbers the stack has room for, and how many values; the tag numbers; and the
-- values of the global section
pub record Given : Type 0 where
  pub room : ℕ
  pub most : ℕ
  pub numbers : List ℕ
  pub global : List ℤ

-- how a run ends: with the values of the section in the order of its assignments; with a fault of arithmetic
-- after so many values; or in want of something that isn't there
pub data Ended : Type 0 where
  Finished : List ℤ → Ended
  Faulted : ℕ → Arith → Ended
  Stuck : Ended

-- what comes next: how many operations are passed, the stack, and the values
abbrev pub Next : Type 0
Next = ℕ → List ℤ → List ℤ → Ended

-- pushes a number, where it is there and the stack has room
abbrev pub pushed : (given : Given) (number : Option ℤ) (next : Next) (stack own : List ℤ) → Ended
pushed given None next stack own = Stuck
pushed given (Some n) next stack own =
    if nat_lt (length stack) given.room then next 0 (n ∷ stack) own else Stuck

-- goes on with the number on top and what is below it
abbrev pub on_top : List ℤ → (ℤ → List ℤ → Ended) → Ended
on_top [] go = Stuck
on_top (n ∷ stack) go = go n stack

-- pushes the result of an operator, or ends with its fault
abbrev pub computed : Result ℤ Arith → Next → List ℤ → List ℤ → Ended
computed (Ok n) next stack own = next 0 (n ∷ stack) own
computed (Err kind) next stack own = Faulted (length own) kind

-- whether the number of a look's tag is among those that it asks for
abbrev pub look_value : List ℕ → Option ℕ → Option ℤ
look_value asked number = option_map (λ n. truth (is_listed n asked)) number

-- one operation
abbrev pub act : (given : Given) (instr : Instr) (next : Next) (stack own : List ℤ) → Ended
act given (Number n) next stack own = pushed given (Some n) next stack own
act given (Own place) next stack own = pushed given (slice_get own place) next stack own
act given (Global place) next stack own = pushed given (slice_get given.global place) next stack own
act given (Look look) next stack own =
    pushed given (look_value look.numbers (slice_get given.numbers look.tag)) next stack own
act given Not next stack own = on_top stack (λ n rest. next 0 (truth (not (is_true n)) ∷ rest) own)
act given Truth next stack own = on_top stack (λ n rest. next 0 (truth (is_true n) ∷ rest) own)
act given (Two op) next stack own =
    on_top stack (λ b rest. on_top rest (λ a below. computed (result_of op a b) next below own))
act given (JumpZero passed) next stack own =
    on_top stack (λ n rest. if is_true n then next 0 rest own else next passed rest own)
act given (Jump passed) next stack own = next passed stack own
act given Set next stack own =
    on_top stack (λ n rest. if nat_lt (length own) given.most then next 0 rest (own ++ n ∷ []) else Stuck)

-- the run of the operations that are left, of which so many are passed first
abbrev pub exec : Given → List Instr → Next
exec given [] passed stack own = Finished own
exec given (i ∷ rest) (suc passed) stack own = exec given rest passed stack own
exec given (i ∷ rest) zero stack own = act given i (exec given rest) stack own

-- the run of a section's operations from the first, with nothing on the stack and no value
abbrev pub run_of : Given → List Instr → Ended
run_of given instrs = exec given instrs 0 [] []
