-- The steps of a text of which so much was seen, and the three verdicts.
use Rattle.std.specs.Prelude.{ℕ, List, [], ◌∷◌, ◌++◌, ◌≡◌, Bool, true, false, if◌then◌else◌, length}
pub use Rattle.json_text.specs.declared.step.Verdict.{Verdict}
pub use Rattle.json_text.specs.declared.step.Verdict.TheVariants.{More, Whole, BadAt}
use Rattle.json_text.specs.Marks.{Symbol, End, Step, Mark, Seen, symbols_of, steps_of, symbols, Begins}
use Rattle.json_text.specs.Grammar.{IsText}

-- what was seen of a text: its bytes so far, and its end once that was said
abbrev pub seen : List ℕ → Bool → List Symbol
seen bytes ended = symbols bytes ++ (if ended then End ∷ [] else [])

-- the bytes begin some text. The front ends with the last byte, or with steps that each such text gives there
pub record IsMore (bytes : List ℕ) (front : List Mark) : Type 0 where
  pub same : symbols_of front ≡ symbols bytes
  pub goes_on : (x : Symbol) × (rest : List Mark) × IsText (front ++ (Seen x ∷ rest))
  pub only : (text : List Mark) → IsText text → Begins (symbols bytes) (symbols_of text) → Begins front text

-- the front is the text of these bytes, and no other is
pub record IsWhole (bytes : List ℕ) (front : List Mark) : Type 0 where
  pub same : symbols_of front ≡ seen bytes true
  pub is_text : IsText front
  pub only : (text : List Mark) → IsText text → symbols_of text ≡ seen bytes true → text ≡ front

-- what was seen begins with the symbols of the front and goes on with a symbol behind which no text goes on.
-- The front begins some text, and has each step that can stand in it
pub record IsBad (bytes : List ℕ) (ended : Bool) (front : List Mark) : Type 0 where
  pub next : Symbol
  pub others : List Symbol
  pub same : seen bytes ended ≡ symbols_of front ++ (next ∷ others)
  pub begins : (rest : List Mark) × IsText (front ++ rest)
  pub longest : (text : List Mark) → IsText text →
      Begins (symbols_of front ++ (next ∷ [])) (symbols_of text) → ⊥
  pub all : (other rest : List Mark) → IsText (other ++ rest) → symbols_of other ≡ symbols_of front →
      Begins other front

-- the front fits the verdict
abbrev pub IsFrontFor : List ℕ → Bool → List Mark → Verdict → Type 0
IsFrontFor bytes ended front More = (ended ≡ false) × IsMore bytes front
IsFrontFor bytes ended front Whole = (ended ≡ true) × IsWhole bytes front
IsFrontFor bytes ended front (BadAt n) = (length (symbols_of front) ≡ n) × IsBad bytes ended front

-- the fixed steps of what was seen, and the verdict behind them
pub record Reads (bytes : List ℕ) (ended : Bool) (steps : List Step) (verdict : Verdict) : Type 0 where
  pub front : List Mark
  pub given : steps_of front ≡ steps
  pub fits : IsFrontFor bytes ended front verdict

-- the steps are fixed: whatever is read of what was seen begins with them
abbrev pub AreFixed : List ℕ → Bool → List Step → Type 0
AreFixed bytes ended steps = (all : List Step) (verdict : Verdict) → Reads bytes ended all verdict →
    Begins steps all
