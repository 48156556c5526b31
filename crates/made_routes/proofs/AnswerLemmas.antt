-- What is left of a refusal where nothing is refused.
use Rattle.std.proofs.Common.{◌≡◌, ◌⊎◌, inl, inr, true, Result, Ok, Err}
use Rattle.std.specs.Prelude.{is_ok}

-- a refusal of what is accepted is want of memory
pub only-memory : {A E : Type 0} (answer : Result A E) (error no_memory : E) → is_ok answer ≡ true →
    (error ≡ no_memory) ⊎ (answer ≡ Err error) →
    error ≡ no_memory
only-memory answer error no_memory accepted (inl same) = same
only-memory (Ok a) error no_memory accepted (inr is) = absurd (cc)
only-memory (Err e) error no_memory accepted (inr is) = absurd (cc)
