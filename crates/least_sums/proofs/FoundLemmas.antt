-- What a finding ends with, in each width.
use Rattle.std.proofs.Common.{◌≡◌, ℕ, Option, None, option_map, subst}
use Rattle.overpass_graph.specs.Roads.{Roads}
use Rattle.least_sums.specs.Prices.{Prices}
use Rattle.least_sums.specs.States.{IsEnded, IsFinal, State}

-- where nothing ended it, all sums are found
pub ended-whole :
    {N : Type 0} (roads : Roads) (prices : Prices) (target far : ℕ) (number : N → ℕ) (o : Option N) (state : State) → o ≡ None →
    IsEnded roads prices target far (option_map number o) state → IsFinal roads prices target far state
ended-whole roads prices target far number o state is ended =
    subst (λ r. IsEnded roads prices target far (option_map number r) state) is ended
