-- The states along a run, one after another.
use Rattle.std.proofs.Common.{ℕ, ◌≡◌, ◌+◌, ◌-◌, ◌<◌, List, [], ◌∷◌, ◌++◌, take, drop, length, get_or, Option, Some, refl, sym, ap, ◌∙◌, subst, append_assoc, add-one, drop-cons, IsTrue}
use Rattle.std.proofs.lemmas.List.{take_rest}
use Rattle.space_search.specs.Rules.{Rules}
use Rattle.space_search.specs.Laws.{IsSpace}
use Rattle.space_search.specs.Runs.{Walks, steps, IsRun, starts}
use Rattle.grid_map.specs.Space.{IsSomeRun, state_or, states_along}

-- from a state these steps are the rest of a run
pub record IsOnRun (rules : Rules ℕ) (state : ℕ) (numbers : List ℕ) : Type 0 where
  pub valid : IsTrue (rules.is_valid state)
  pub end : ℕ
  pub cost : ℕ
  pub total : ℕ
  pub walks : Walks rules state cost numbers end total

-- what is known of the next step
pub record TakesStep (rules : Rules ℕ) (state number : ℕ) (numbers : List ℕ) : Type 0 where
  pub within : number < rules.steps state
  pub on : IsOnRun rules (state_or (rules.step state number) state) numbers

-- the next step is permitted, and behind it is the rest of the run
step_on : {rules : Rules ℕ} {state cost end total number : ℕ} {numbers : List ℕ} → IsSpace rules → IsTrue (rules.is_valid state) →
    Walks rules state cost (number ∷ numbers) end total → TakesStep rules state number numbers
step_on {rules = rules} laws valid
    (steps {state = state} {next = next} {end = end} {cost = cost} {more = more} {total = total} {number = number} {numbers = numbers}
    within is walk) =
    let next_is : next ≡ state_or (rules.step state number) state = sym (ap (λ found. state_or found state) is) in
    let P : ℕ → Type 0 = λ s. IsOnRun rules s numbers in
    record {
      within = within;
      on = subst P next_is (record {
        valid = (laws.moves.steps state number next more valid within is).valid;
        end = end;
        cost = cost + more;
        total = total;
        walks = walk;
      });
    }

-- the next step of the rest of a run
pub IsOnRun-step : (rules : Rules ℕ) (state number : ℕ) (numbers : List ℕ) → IsSpace rules → IsOnRun rules state (number ∷ numbers) →
    TakesStep rules state number numbers
IsOnRun-step rules state number numbers laws on = step_on laws on.valid on.walks

-- behind its start a run is the rest of a run
run_rest :
    {rules : Rules ℕ} {choices : List ℕ} {end cost : ℕ} → (from : ℕ) → ((number : ℕ) → rules.start number ≡ Some (from, 0)) →
    IsTrue (rules.is_valid from) →
    IsRun rules choices end cost → IsOnRun rules from (drop 1 choices)
run_rest {rules = rules} from start valid
    (starts {state = state} {end = end} {cost = cost} {total = total} {number = number} {numbers = numbers} within is walk) =
    let same : ◌≡◌ {A = Option (ℕ × ℕ)} (Some (from, 0)) (Some (state, cost)) = sym (start number) ∙ is in
    let both : ◌≡◌ {A = ℕ × ℕ} (from, 0) (state, cost) = cc in
    let here : state ≡ from = sym (ap (λ (p : ℕ × ℕ). p.0) both) in
    let P : ℕ → Type 0 = λ s. Walks rules s cost numbers end total in
    record { valid = valid; end = end; cost = cost; total = total; walks = subst P here walk }

-- the numbers behind the first choice, as they are cut off, are the rest of a run
pub run_numbers :
    (rules : Rules ℕ) (choices : List ℕ) (from : ℕ) → IsSpace rules → 0 < rules.starts →
    ((number : ℕ) → rules.start number ≡ Some (from, 0)) →
    IsSomeRun rules choices → IsOnRun rules from (take (length choices - 1) (drop 1 choices))
run_numbers rules choices from laws some start is =
    let valid = (laws.moves.starts 0 from 0 some (start 0)).valid in
    subst (IsOnRun rules from) (sym (take_rest choices 1)) (run_rest from start valid is.run)

-- what is known once the next step was taken
pub record HasTaken (rules : Rules ℕ) (cells : List ℕ) (cell : ℕ) (numbers all : List ℕ) : Type 0 where
  pub on : IsOnRun rules cell numbers
  pub states : cells ++ states_along rules cell numbers ≡ all

-- the numbers from one on are that one and those behind it
split_at : (numbers : List ℕ) (i : ℕ) → i < length numbers → drop i numbers ≡ get_or numbers i 0 ∷ drop (i + 1) numbers
split_at numbers i within = rw (add-one, drop-cons numbers i 0) refl

-- the next step is permitted
pub next-within :
    (rules : Rules ℕ) (cell : ℕ) (numbers : List ℕ) (i : ℕ) → IsSpace rules → i < length numbers → IsOnRun rules cell (drop i numbers) →
    get_or numbers i 0 < rules.steps cell
next-within rules cell numbers i laws within on =
    (IsOnRun-step rules cell (get_or numbers i 0) (drop (i + 1) numbers) laws
    (subst (IsOnRun rules cell) (split_at numbers i within) on)).within

-- what is known before the next step is taken
pub record BeforeStep (rules : Rules ℕ) (cells : List ℕ) (cell : ℕ) (numbers all : List ℕ) (i : ℕ) : Type 0 where
  pub laws : IsSpace rules
  pub within : i < length numbers
  pub on : IsOnRun rules cell (drop i numbers)
  pub states : cells ++ states_along rules cell (drop i numbers) ≡ all

-- the next state is put behind those before it
pub next-taken :
    (rules : Rules ℕ) (cells pushed : List ℕ) (cell next : ℕ) (numbers all : List ℕ) (i : ℕ) →
    BeforeStep rules cells cell numbers all i → pushed ≡ cells ++ cell ∷ [] →
    next ≡ state_or (rules.step cell (get_or numbers i 0)) cell → HasTaken rules pushed next (drop (i + 1) numbers) all
next-taken rules cells pushed cell next numbers all i b is next_is =
    let split = split_at numbers i b.within in
    let rest = drop (i + 1) numbers in
    let step = IsOnRun-step rules cell (get_or numbers i 0) rest b.laws (subst (IsOnRun rules cell) split b.on) in
    let there = ap (λ (s : ℕ). states_along rules s rest) next_is in
    let front : cells ++ states_along rules cell (drop i numbers) ≡ cells ++
    (cell ∷ states_along rules (state_or (rules.step cell (get_or numbers i 0)) cell) rest) =
    ap (λ (ns : List ℕ). cells ++ states_along rules cell ns) split in
    let P : ℕ → Type 0 = λ s. IsOnRun rules s rest in
    record {
      on = subst P (sym next_is) step.on;
      states =
          ap (λ (xs : List ℕ). xs ++ states_along rules next rest) is
          ∙ append_assoc cells (cell ∷ []) (states_along rules next rest)
          ∙ ap (λ (xs : List ℕ). cells ++ (cell ∷ xs)) there
          ∙ sym front ∙ b.states;
    }
