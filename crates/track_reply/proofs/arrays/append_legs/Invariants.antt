use Rattle.std.proofs.Common.{◌≡◌, ◌++◌, take}
use Rattle.std.specs.List.{join_by}
use Rattle.track_reply.specs.GeoJson.{walk_array}
use Rattle.track_reply.specs.Joined.{comma}
use Rattle.track_legs.specs.declared.track.Leg.{Leg}
use Rattle.track_reply.proofs.arrays.append_legs.Given as goal

abbrev pub invariant-legs : goal.invariant-legs
invariant-legs l = l.out.items ≡ l.fn.out.items ++ join_by (λ (leg : Leg). walk_array l.map leg.links) comma (take l.place l.legs)
