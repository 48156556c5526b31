use Rattle.std.proofs.Common.{◌≡◌, take}
use Rattle.track_legs.specs.Sums.{total_cost}
use Rattle.made_routes.proofs.total.total_cost.Given as goal

abbrev pub invariant-legs : goal.invariant-legs
invariant-legs l = l.sum ≡ total_cost (take l.place l.legs)
