-- This project's own rule: what a call answers that may also meet want of memory.
use Rattle.std.specs.Prelude.{◌≡◌, ◌⊎◌, Option, Some, None, option_map, Result, Ok, Err, IfOk, MatchResult}

-- goes on with a value, or keeps the refusal
abbrev pub and_then : {A B E : Type 0} → Result A E → (A → Result B E) → Result B E
and_then (Ok a) go = go a
and_then (Err e) go = Err e

-- the value seen so, or the refusal told so
abbrev pub answer_map : {A B E F : Type 0} → (A → B) → (E → F) → Result A E → Result B F
answer_map view told (Ok a) = Ok (view a)
answer_map view told (Err e) = Err (told e)

-- a call gives this answer, its value seen so, or reports want of memory by this error
abbrev pub Answers : {A B E : Type 0} → (A → B) → Result B E → E → Result A E → Type 0
Answers view answer no_memory result =
    MatchResult result (λ a. answer ≡ Ok (view a)) (λ e. (e ≡ no_memory) ⊎ (answer ≡ Err e))

-- a call is Ok where nothing is refused, gives the refusal, or reports want of memory by this error
abbrev pub Passes : {A E : Type 0} → Option E → E → Result A E → Type 0
Passes refusal no_memory result =
    MatchResult result (λ _. refusal ≡ None) (λ e. (e ≡ no_memory) ⊎ (refusal ≡ Some e))

-- a call gives this value, seen so, or reports want of memory, its only error
abbrev pub Gives : {A B E : Type 0} → (A → B) → B → Result A E → Type 0
Gives view value result = IfOk result (λ a. view a ≡ value)

-- a call gives this value, seen so, or none, or reports want of memory, its only error
abbrev pub GivesAny : {A B E : Type 0} → (A → B) → Option B → Result (Option A) E → Type 0
GivesAny view value result = IfOk result (λ a. option_map view a ≡ value)
