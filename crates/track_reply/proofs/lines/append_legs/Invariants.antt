use Rattle.std.proofs.Common.{◌≡◌, ◌++◌, take}
use Rattle.std.specs.List.{flat_map}
use Rattle.track_reply.specs.Csv.{leg_line}
use Rattle.track_reply.proofs.lines.append_legs.Given as goal

abbrev pub invariant-legs : goal.invariant-legs
invariant-legs l = l.out.items ≡ l.fn.out.items ++ flat_map (leg_line l.map) (take l.place l.legs)
