use Rattle.std.proofs.Common.{◌≡◌, ◌++◌, take}
use Rattle.std.specs.List.{join_by}
use Rattle.track_reply.specs.GeoJson.{step_array}
use Rattle.track_reply.specs.Joined.{comma}
use Rattle.track_reply.proofs.arrays.append_steps.Given as goal

abbrev pub invariant-links : goal.invariant-links
invariant-links l = l.out.items ≡ l.fn.out.items ++ join_by (step_array l.map) comma (take l.place l.walk)
