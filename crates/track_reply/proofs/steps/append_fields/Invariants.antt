use Rattle.std.proofs.Common.{◌≡◌, ◌++◌, take}
use Rattle.std.specs.List.{flat_map}
use Rattle.track_reply.specs.Joined.{tab}
use Rattle.track_reply.specs.Steps.{step_field}
use Rattle.track_reply.proofs.steps.append_fields.Given as goal

abbrev pub invariant-links : goal.invariant-links
invariant-links l = l.out.items ≡ l.fn.out.items ++ flat_map (λ link. tab ++ step_field l.map link) (take l.place l.walk)
