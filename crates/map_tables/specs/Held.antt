-- What tables hold, and what becomes of them where an element is added (this project's own rule).
use Rattle.std.specs.Prelude.{◌≡◌, ◌⊎◌, Result, Ok, Err, MatchResult, OnErr}
use Rattle.map_tables.specs.declared.limits.Limits.{Limits}
use Rattle.map_tables.specs.declared.error.MapError.{MapError}
use Rattle.map_tables.specs.declared.error.MapError.TheVariants.{NoMemory}
use Rattle.map_tables.specs.Draft.{Draft}

-- the elements so far, and how many there may be
pub record Held : Type 0 where
  pub limits : Limits
  pub draft : Draft

-- a call refuses as the answer does; or it reports want of memory, where the answer is no refusal
abbrev pub RefusesBy : {D : Type 0} → Result D MapError → MapError → Type 0
RefusesBy answer e = ((e ≡ NoMemory) × OnErr answer ⊥) ⊎ (answer ≡ Err e)

-- a call that changes a value gives it as the answer does, and keeps what else there is; or it refuses as the
-- answer does, or reports want of memory in place of a value, and changes nothing
abbrev pub Becomes : {A D : Type 0} → Result A MapError → D → D → Result D MapError → Type 0
Becomes result old new answer =
    MatchResult result (λ _. answer ≡ Ok new) (λ e. RefusesBy answer e × (new ≡ old))

-- the draft becomes what the answer says, and the limits stay; or the call refuses as the answer does, or
-- reports want of memory in place of a draft, and nothing changes
abbrev pub Takes : {A : Type 0} → Result A MapError → Held → Held → Result Draft MapError → Type 0
Takes result old new answer =
    MatchResult result (λ _. (answer ≡ Ok new.draft) × (new.limits ≡ old.limits))
    (λ e. RefusesBy answer e × (new ≡ old))
