-- What still has to be paid from a node to the target of a leg at least: the least sum of the low forms of
-- distance and the charges over links that join, turning back allowed (this project's own rule).
use Rattle.std.specs.Prelude.{ℕ, Bool, if◌then◌else◌, List, length, Option, Some, None}
use Rattle.cost_model.specs.Parts.{least_price}
use Rattle.cost_model.specs.declared.facts.LinkFacts.{LinkFacts}
use Rattle.least_sums.specs.Prices.{PricedLinks}
use Rattle.least_sums.specs.Sums.{IsLeastSum, IsLeastSumUpTo}
use Rattle.cost_model.specs.OpenLinks.{open_by}
use Rattle.cost_model.specs.Rides.{Terrain, Leg}
use Rattle.bike_space.specs.Marks.{is_marked}

-- what a link adds to what still has to be paid at least, where it is open and its segment was used; none
-- where it is closed
abbrev pub rest_by : Bool → Bool → LinkFacts → Option ℕ
rest_by «open» used facts = if «open» then Some (least_price used facts) else None

-- what a link of a leg adds to what still has to be paid at least
abbrev pub rest_price : Leg → (ℕ → Bool) → ℕ → Option ℕ
rest_price leg used link = rest_by (leg.ride.is_open link) (used link) (leg.ride.facts link)

-- what all links of a terrain add, by the links that are cut and those whose segments were used
abbrev pub priced_by : Terrain → List Bool → List Bool → PricedLinks
priced_by terrain cut used = record {
  count = length terrain.map.links;
  price =
      λ link. rest_by (open_by terrain.links.facts cut link) (is_marked used link) (terrain.links.facts link);
}

-- this has to be paid at least from a node to the target of the leg, where the segments of these links were
-- used; none where the target isn't reached from there
abbrev pub IsRemaining : (leg : Leg) (used : ℕ → Bool) (node : ℕ) (low : Option ℕ) → Type 0
IsRemaining leg used node low = ∥ IsLeastSum leg.ride.roads (rest_price leg used) leg.target node low ∥₁

-- the same up to a radius, where there is one: what has to be paid at least or the radius, whichever is less
abbrev pub IsRemainingUpTo :
    (leg : Leg) (used : ℕ → Bool) (radius : Option ℕ) (node : ℕ) (low : Option ℕ) → Type 0
IsRemainingUpTo leg used radius node low =
    ∥ IsLeastSumUpTo leg.ride.roads (rest_price leg used) leg.target radius node low ∥₁
