-- How a run of operations goes on.
use Rattle.std.proofs.Common.{◌≡◌, ◌∙◌, ℕ, zero, suc, ◌+◌, ◌<◌, List, [], ◌∷◌, drop, length, get_or, ℤ, refl, ap, sym, Ok, min, ◌≤◌, arith}
use Rattle.std.proofs.lemmas.List.{drop_more, drop-drop, drop_min}
use Rattle.profile_code.specs.Machine.{Given, Ended, Next, exec, act}
use Rattle.profile_code.specs.Step.{came_to, given_of}
use Rattle.profile_code.specs.Held.{Held}
use Rattle.profile_code.specs.declared.instr.Instr.{Instr}

-- operations that are passed are as good as absent
pub passed_over : (given : Given) (rest : List Instr) (k : ℕ) (stack own : List ℤ) →
    exec given rest k stack own ≡ exec given (drop k rest) 0 stack own
passed_over given [] zero stack own = refl
passed_over given [] (suc k) stack own = refl
passed_over given (i ∷ rest) zero stack own = refl
passed_over given (i ∷ rest) (suc k) stack own = passed_over given rest k stack own

-- the operation at a place is carried out, and those after it follow
pub at_place : (given : Given) (instrs : List Instr) (at : ℕ) (i : Instr) (stack own : List ℤ) → at < length instrs →
    i ≡ get_or instrs at i → exec given (drop at instrs) 0 stack own ≡ act given i (exec given (drop (at + 1) instrs)) stack own
at_place given instrs at i stack own within is =
    ap (λ (rest : List Instr). exec given rest 0 stack own) (drop_more instrs at i within)
    ∙ ap (λ (j : Instr). act given j (exec given (drop (at + 1) instrs)) stack own) (sym is)

-- where the rooms are the same, a run is given the same
pub given_same : (numbers : List ℕ) (global : List ℤ) (stack stack' own own' : Held) → stack.room ≡ stack'.room →
    own.room ≡ own'.room → given_of numbers global stack own ≡ given_of numbers global stack' own'
given_same numbers global stack stack' own own' p q =
    ap (λ (n : ℕ). record { room = n; most = own.room; numbers = numbers; global = global }) p
    ∙ ap (λ (n : ℕ). record { room = stack'.room; most = n; numbers = numbers; global = global }) q

-- the stack and the values of a run
pub record State : Type 0 where
  pub stack : List ℤ
  pub own : List ℤ

-- the run of these operations from a state on
abbrev pub run_from : Given → List Instr → State → Ended
run_from given instrs s = exec given instrs 0 s.stack s.own

module _ (given : Given) (instrs : List Instr) where
  -- an operation with no fault leads to the operations behind those that it passes
  pub goes_on : (given' : Given) (at passed : ℕ) (i : Instr) (s t : State) → given' ≡ given → at < length instrs →
      i ≡ get_or instrs at i → ((next : Next) → act given' i next s.stack s.own ≡ came_to (Ok passed) next t.stack t.own) →
      run_from given (drop at instrs) s ≡ run_from given (drop passed (drop (at + 1) instrs)) t
  goes_on given' at passed i s t same within is step =
      let next = exec given (drop (at + 1) instrs) in
      at_place given instrs at i s.stack s.own within is
      ∙ ap (λ (g : Given). act g i next s.stack s.own) (sym same)
      ∙ step next
      ∙ passed_over given (drop (at + 1) instrs) passed t.stack t.own

-- a place that is counted up to a limit beyond the end is as good as the place itself
pub drop_capped : (instrs : List Instr) (at passed at' most : ℕ) → length instrs ≤ most →
    at' ≡ min (min (at + passed) most + 1) most → drop passed (drop (at + 1) instrs) ≡ drop at' instrs
drop_capped instrs at passed at' most fits is =
    let e : min (at + 1 + passed) (length instrs) ≡ min at' (length instrs) = omega arith in
    drop-drop passed (at + 1) instrs
    ∙ sym (drop_min (at + 1 + passed) instrs)
    ∙ ap (λ (n : ℕ). drop n instrs) e
    ∙ drop_min at' instrs
