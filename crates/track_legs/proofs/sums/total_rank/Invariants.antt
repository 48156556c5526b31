use Rattle.std.proofs.Common.{◌≡◌, take}
use Rattle.std.specs.List.{sum_by}
use Rattle.track_legs.specs.declared.track.Leg.{Leg}
use Rattle.track_legs.proofs.sums.total_rank.Given as goal

abbrev pub invariant-legs : goal.invariant-legs
invariant-legs l = l.sum ≡ sum_by (λ (leg : Leg). leg.rank) (take l.place l.legs)
