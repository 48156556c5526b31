use Rattle.std.proofs.Common.{◌≡◌, ◌++◌, take}
use Rattle.std.specs.List.{join_by}
use Rattle.track_reply.specs.Earlier.{walks_of}
use Rattle.track_reply.specs.GeoJson.{walk_array}
use Rattle.track_reply.specs.Joined.{comma}
use Rattle.track_reply.proofs.arrays.append_walks.Given as goal

abbrev pub invariant-legs : goal.invariant-legs
invariant-legs l = l.out.items ≡ l.fn.out.items ++ join_by (walk_array l.map) comma (take l.leg (walks_of l.earlier l.number))
