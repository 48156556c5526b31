-- What a walk carries so far.
use Rattle.std.specs.Prelude.{◌≡◌, ℕ, ◌<◌, List, [], Option, Some, None}
use Rattle.cost_model.specs.Prices.{Prices}
use Rattle.cost_model.specs.Parts.{IsHeld}
use Rattle.cost_model.specs.Walks.{IsCarriedBy, pair_of}
use Rattle.cost_model.specs.declared.facts.LinkFacts.{LinkFacts}
use Rattle.cost_model.specs.declared.parts.Carry.{Carry}

-- this is what a walk carries: nothing before its first link
abbrev pub IsCarriedSoFar : (prices : Prices) (facts : ℕ → LinkFacts) (walk : List ℕ)
    (carry : Option Carry) → Type 0
IsCarriedSoFar prices facts walk None = walk ≡ []
IsCarriedSoFar prices facts walk (Some carry) = IsCarriedBy prices facts walk carry

-- what is carried is a link below a count, and buffers that are held
pub record IsKept (prices : Prices) (count : ℕ) (carry : Carry) : Type 0 where
  pub link : carry.link < count
  pub held : IsHeld prices (pair_of carry)
