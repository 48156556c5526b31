-- What the code of an expression does, made of what the code of its operands does.
use Rattle.std.proofs.Common.{◌≡◌, ℕ, suc, ◌+◌, ◌≤◌, max, Bool, true, false, not, List, [], ◌∷◌, ◌++◌, length, ℤ, pos, Some, None, Result, Ok, Err, refl, ap, ◌∙◌, arith, append_assoc}
use Rattle.std.specs.Prelude.{if◌then◌else◌}
use Rattle.std.proofs.lemmas.Bool.{lt-ltb}
use Rattle.context_check.specs.Checked.{IsArithmetic}
use Rattle.fixed_num.specs.declared.arithmetic.Arith.{Arith}
use Rattle.profile_code.specs.Correct.{fault_end}
use Rattle.profile_code.specs.declared.instr.Instr.{Instr}
use Rattle.profile_code.specs.declared.instr.Instr.TheVariants.{Number, Not, Truth, Two, JumpZero, Jump}
use Rattle.profile_code.specs.Emit.{operation_code, choice_code}
use Rattle.profile_code.specs.Machine.{Given, Ended, Stuck, Next, pushed, computed, act, exec}
use Rattle.profile_text.specs.Meaning.{Fault, and_then, arithmetic, truth, is_true, decided_by, result_of, operation}
use Rattle.profile_text.specs.declared.expr.Op.{Op}
use Rattle.profile_text.specs.declared.expr.Op.TheVariants.{Or, And}
use Rattle.context_check.proofs.CallerLemmas.{IsKnown-arithmetic}

-- what follows the code of an expression: a run with its value on the stack, or the end with its fault
abbrev pub after : Given → List Instr → List ℤ → List ℤ → Result ℤ Fault → Ended
after given rest stack own (Ok n) = exec given rest 0 (n ∷ stack) own
after given rest stack own (Err f) = fault_end (length own) f

-- no name, tag or value is unknown
abbrev pub IsKnown : Result ℤ Fault → Type 0
IsKnown (Ok n) = Unit {0}
IsKnown (Err f) = IsArithmetic f

-- on a stack with so much room the code comes to this value or fault, after these values of the section
pub record Gives (given : Given) (own : List ℤ) (height : ℕ) (code : List Instr) (r : Result ℤ Fault) : Type 0 where
  pub runs :
      (stack : List ℤ) (rest : List Instr) →
      length stack + height ≤ given.room →
      exec given (code ++ rest) 0 stack own ≡ after given rest stack own r
  pub known : IsKnown r

-- so many operations are passed as the code has, and more of what follows it
passes : (given : Given) (code rest : List Instr) (k n : ℕ) (stack own : List ℤ) → k ≡ length code + n →
    exec given (code ++ rest) k stack own ≡ exec given rest n stack own
passes given [] rest k n stack own is =
    let e : k ≡ n = omega arith in ap (λ m. exec given rest m stack own) e
passes given (i ∷ code) rest k n stack own is =
    let e : k ≡ suc (length code + n) = omega arith in
    ap (λ m. exec given (i ∷ (code ++ rest)) m stack own) e ∙ passes given code rest (length code + n) n stack own refl

-- a number is pushed where the stack has room
pub pushes : (given : Given) (n : ℤ) (next : Next) (stack own : List ℤ) → length stack + 1 ≤ given.room →
    pushed given (Some n) next stack own ≡ next 0 (n ∷ stack) own
pushes given n next stack own fits =
    ap (λ b. if b then next 0 (n ∷ stack) own else Stuck) (lt-ltb (length stack) given.room (omega arith))

-- an operation that pushes a number gives it
pub gives_number : (given : Given) (own : List ℤ) (i : Instr) (n : ℤ) →
    ((next : Next) (stack : List ℤ) → act given i next stack own ≡ pushed given (Some n) next stack own) →
    Gives given own 1 (i ∷ []) (Ok n)
gives_number given own i n is = record {
  runs = λ stack rest fits. is (exec given rest) stack ∙ pushes given n (exec given rest) stack own fits;
  known = tt;
}

-- code after a first operand, which goes on from each of its values
pub record GoesOn (given : Given) (own : List ℤ) (height : ℕ) (code : List Instr) (go : ℤ → Result ℤ Fault) : Type 0 where
  pub runs :
      (a : ℤ) (stack : List ℤ) (rest : List Instr) →
      length stack + height ≤ given.room →
      exec given (code ++ rest) 0 (a ∷ stack) own ≡ after given rest stack own (go a)
  pub known : (a : ℤ) → IsKnown (go a)

-- the code of a first operand, and what goes on from it
gives_then : (given : Given) (own : List ℤ) (first height : ℕ) (a code : List Instr) (r : Result ℤ Fault) (go : ℤ → Result ℤ Fault) →
    Gives given own first a r → GoesOn given own height code go → first ≤ height → Gives given own height (a ++ code) (and_then r go)
gives_then given own first height a code (Ok n) go gives goes le = record {
  runs = λ stack rest fits.
      ap (λ l. exec given l 0 stack own) (append_assoc a code rest)
      ∙ gives.runs stack (code ++ rest) (omega arith)
      ∙ goes.runs n stack rest fits;
  known = goes.known n;
}
gives_then given own first height a code (Err f) go gives goes le = record {
  runs = λ stack rest fits.
      ap (λ l. exec given l 0 stack own) (append_assoc a code rest) ∙ gives.runs stack (code ++ rest) (omega arith);
  known = gives.known;
}

-- ---- Negation

-- the code of a negation gives the negation's value
pub gives_not : (given : Given) (own : List ℤ) (height : ℕ) (a : List Instr) (r : Result ℤ Fault) → Gives given own height a r →
    Gives given own height (a ++ Not ∷ []) (and_then r (λ n. Ok (truth (not (is_true n)))))
gives_not given own height a r gives =
    let goes : GoesOn given own height (Not ∷ []) (λ n. Ok (truth (not (is_true n)))) = record {
      runs = λ n stack rest fits. refl;
      known = λ n. tt;
    } in
    gives_then given own height height a (Not ∷ []) r (λ n. Ok (truth (not (is_true n)))) gives goes (omega arith)

-- ---- Operators

-- a result of arithmetic is pushed, or ends the run with its fault
after_computed : (given : Given) (rest : List Instr) (stack own : List ℤ) (r : Result ℤ Arith) →
    computed r (exec given rest) stack own ≡ after given rest stack own (arithmetic r)
after_computed given rest stack own (Ok n) = refl
after_computed given rest stack own (Err kind) = refl

-- a second operand leaves a fault of its own or one of arithmetic
known_second : (op : Op) (a : ℤ) (r : Result ℤ Fault) → IsKnown r → IsKnown (and_then r (λ n. arithmetic (result_of op a n)))
known_second op a (Ok n) known = IsKnown-arithmetic (result_of op a n)
known_second op a (Err f) known = known

-- an operator that looks at both operands
gives_two : (given : Given) (own : List ℤ) (first second : ℕ) (op : Op) (a b : List Instr) (ra rb : Result ℤ Fault) →
    Gives given own first a ra → Gives given own second b rb →
    Gives given own (max first (suc second)) (a ++ (b ++ Two op ∷ [])) (and_then ra (λ n. operation op n None rb))
gives_two given own first second op a b ra rb ga gb =
    gives_then given own first (max first (suc second)) a (b ++ Two op ∷ []) ra (λ n. operation op n None rb) ga (record {
      runs = λ n stack rest fits.
          ap (λ l. exec given l 0 (n ∷ stack) own) (append_assoc b (Two op ∷ []) rest)
          ∙ gb.runs (n ∷ stack) (Two op ∷ rest) (omega arith)
          ∙ operated n stack rest rb;
      known = λ n. known_second op n rb gb.known;
    }) (omega arith)
  where
    operated : (n : ℤ) (stack : List ℤ) (rest : List Instr) (r : Result ℤ Fault) →
        after given (Two op ∷ rest) (n ∷ stack) own r ≡ after given rest stack own (operation op n None r)
    operated n stack rest (Ok m) = after_computed given rest stack own (result_of op n m)
    operated n stack rest (Err f) = refl

-- `and`, which passes its second operand where the first is zero
gives_and : (given : Given) (own : List ℤ) (first second : ℕ) (a b : List Instr) (ra rb : Result ℤ Fault) →
    Gives given own first a ra → Gives given own second b rb → 1 ≤ first →
    Gives given own (max first (suc second)) (operation_code And a b) (and_then ra (λ n. operation And n (decided_by And n) rb))
gives_and given own first second a b ra rb ga gb some =
    gives_then given own first (max first (suc second)) a (JumpZero (length b + 2) ∷ (b ++ Truth ∷ Jump 1 ∷ Number (pos 0) ∷ [])) ra
    (λ n. operation And n (decided_by And n) rb) ga (record {
      runs = λ n stack rest fits. jumped n (is_true n) stack rest fits;
      known = λ n. known n (is_true n);
    }) (omega arith)
  where
    tail : List Instr
    tail = Truth ∷ Jump 1 ∷ Number (pos 0) ∷ []

    ends : (n : ℤ) (stack : List ℤ) (rest : List Instr) (r : Result ℤ Fault) →
        after given (Truth ∷ Jump 1 ∷ Number (pos 0) ∷ rest) stack own r ≡ after given rest stack own (operation And n None r)
    ends n stack rest (Ok m) = refl
    ends n stack rest (Err f) = refl

    jumped : (n : ℤ) (t : Bool) (stack : List ℤ) (rest : List Instr) → length stack + max first (suc second) ≤ given.room →
        (if t then exec given ((b ++ Truth ∷ Jump 1 ∷ Number (pos 0) ∷ []) ++ rest) 0 stack own
        else exec given ((b ++ Truth ∷ Jump 1 ∷ Number (pos 0) ∷ []) ++ rest) (length b + 2) stack own)
        ≡ after given rest stack own (operation And n (if t then None else Some (truth false)) rb)
    jumped n true stack rest fits =
        ap (λ l. exec given l 0 stack own) (append_assoc b (Truth ∷ Jump 1 ∷ Number (pos 0) ∷ []) rest)
        ∙ gb.runs stack (Truth ∷ Jump 1 ∷ Number (pos 0) ∷ rest) (omega arith)
        ∙ ends n stack rest rb
    jumped n false stack rest fits =
        ap (λ l. exec given l (length b + 2) stack own) (append_assoc b (Truth ∷ Jump 1 ∷ Number (pos 0) ∷ []) rest)
        ∙ passes given b (Truth ∷ Jump 1 ∷ Number (pos 0) ∷ rest) (length b + 2) 2 stack own refl
        ∙ pushes given (pos 0) (exec given rest) stack own (omega arith)

    known : (n : ℤ) (t : Bool) → IsKnown (operation And n (if t then None else Some (truth false)) rb)
    known n true = known_second And n rb gb.known
    known n false = tt

-- `or`, which passes its second operand where the first is nonzero
gives_or : (given : Given) (own : List ℤ) (first second : ℕ) (a b : List Instr) (ra rb : Result ℤ Fault) →
    Gives given own first a ra → Gives given own second b rb → 1 ≤ first →
    Gives given own (max first (suc second)) (operation_code Or a b) (and_then ra (λ n. operation Or n (decided_by Or n) rb))
gives_or given own first second a b ra rb ga gb some =
    gives_then given own first (max first (suc second)) a (JumpZero 2 ∷ Number (pos 1000000) ∷ Jump (length b + 1) ∷ (b ++ Truth ∷ [])) ra
    (λ n. operation Or n (decided_by Or n) rb) ga (record {
      runs = λ n stack rest fits. jumped n (is_true n) stack rest fits;
      known = λ n. known n (is_true n);
    }) (omega arith)
  where
    ends : (n : ℤ) (stack : List ℤ) (rest : List Instr) (r : Result ℤ Fault) →
        after given (Truth ∷ rest) stack own r ≡ after given rest stack own (operation Or n None r)
    ends n stack rest (Ok m) = refl
    ends n stack rest (Err f) = refl

    jumped : (n : ℤ) (t : Bool) (stack : List ℤ) (rest : List Instr) → length stack + max first (suc second) ≤ given.room →
        (if t then exec given (Number (pos 1000000) ∷ Jump (length b + 1) ∷ ((b ++ Truth ∷ []) ++ rest)) 0 stack own
        else exec given (Number (pos 1000000) ∷ Jump (length b + 1) ∷ ((b ++ Truth ∷ []) ++ rest)) 2 stack own)
        ≡ after given rest stack own (operation Or n (if t then Some (truth true) else None) rb)
    jumped n true stack rest fits =
        pushes given (pos 1000000) (exec given (Jump (length b + 1) ∷ ((b ++ Truth ∷ []) ++ rest))) stack own (omega arith)
        ∙ ap (λ l. exec given l (length b + 1) (pos 1000000 ∷ stack) own) (append_assoc b (Truth ∷ []) rest)
        ∙ passes given b (Truth ∷ rest) (length b + 1) 1 (pos 1000000 ∷ stack) own refl
    jumped n false stack rest fits =
        ap (λ l. exec given l 0 stack own) (append_assoc b (Truth ∷ []) rest)
        ∙ gb.runs stack (Truth ∷ rest) (omega arith)
        ∙ ends n stack rest rb

    known : (n : ℤ) (t : Bool) → IsKnown (operation Or n (if t then Some (truth true) else None) rb)
    known n true = tt
    known n false = known_second Or n rb gb.known

-- the code of an operator gives what the operator comes to
pub gives_operation : (given : Given) (own : List ℤ) (first second : ℕ) (op : Op) (a b : List Instr) (ra rb : Result ℤ Fault) →
    Gives given own first a ra → Gives given own second b rb → 1 ≤ first →
    Gives given own (max first (suc second)) (operation_code op a b) (and_then ra (λ n. operation op n (decided_by op n) rb))
gives_operation given own first second And a b ra rb ga gb some = gives_and given own first second a b ra rb ga gb some
gives_operation given own first second Or a b ra rb ga gb some = gives_or given own first second a b ra rb ga gb some
gives_operation given own first second op a b ra rb ga gb some = gives_two given own first second op a b ra rb ga gb

-- ---- Choices

module _ (given : Given) (own : List ℤ) where
  -- the code of a choice gives the value of the arm that it picks
  pub gives_choice : (first second third : ℕ) (a b c : List Instr) (ra rb rc : Result ℤ Fault) →
      Gives given own first a ra → Gives given own second b rb → Gives given own third c rc →
      Gives given own (max first (max second third)) (choice_code a b c) (and_then ra (λ n. if is_true n then rb else rc))
  gives_choice first second third a b c ra rb rc ga gb gc =
      gives_then given own first (max first (max second third)) a (JumpZero (length b + 1) ∷ (b ++ Jump (length c) ∷ c)) ra
      (λ n. if is_true n then rb else rc) ga (record {
        runs = λ n stack rest fits. jumped (is_true n) stack rest fits;
        known = λ n. known (is_true n);
      }) (omega arith)
    where
      -- after the first arm the second is passed
      over : (stack : List ℤ) (rest : List Instr) (r : Result ℤ Fault) →
          after given (Jump (length c) ∷ (c ++ rest)) stack own r ≡ after given rest stack own r
      over stack rest (Ok m) = passes given c rest (length c) 0 (m ∷ stack) own (omega arith)
      over stack rest (Err f) = refl

      -- the first arm is run where the test is true, the second where it isn't
      jumped : (t : Bool) (stack : List ℤ) (rest : List Instr) → length stack + max first (max second third) ≤ given.room →
          (if t then exec given ((b ++ Jump (length c) ∷ c) ++ rest) 0 stack own
          else exec given ((b ++ Jump (length c) ∷ c) ++ rest) (length b + 1) stack own)
          ≡ after given rest stack own (if t then rb else rc)
      jumped true stack rest fits =
          ap (λ l. exec given l 0 stack own) (append_assoc b (Jump (length c) ∷ c) rest)
          ∙ gb.runs stack (Jump (length c) ∷ (c ++ rest)) (omega arith)
          ∙ over stack rest rb
      jumped false stack rest fits =
          ap (λ l. exec given l (length b + 1) stack own) (append_assoc b (Jump (length c) ∷ c) rest)
          ∙ passes given b (Jump (length c) ∷ (c ++ rest)) (length b + 1) 1 stack own refl
          ∙ gc.runs stack rest (omega arith)

      -- neither arm is in want of a name
      known : (t : Bool) → IsKnown (if t then rb else rc)
      known true = gb.known
      known false = gc.known
