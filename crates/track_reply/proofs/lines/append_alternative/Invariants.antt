use Rattle.std.proofs.Common.{◌≡◌, ◌++◌, take}
use Rattle.std.specs.List.{flat_map}
use Rattle.track_reply.specs.Csv.{earlier_line}
use Rattle.track_reply.specs.Earlier.{walks_of}
use Rattle.track_reply.proofs.lines.append_alternative.Given as goal

abbrev pub invariant-legs : goal.invariant-legs
invariant-legs l =
    l.out.items ≡ l.fn.out.items ++ flat_map (earlier_line l.map l.number) (take l.leg (walks_of l.earlier l.number))
