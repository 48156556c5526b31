use Rattle.std.proofs.Common.{◌≡◌, ◌++◌, take}
use Rattle.std.specs.List.{flat_map}
use Rattle.track_reply.specs.Csv.{alternative_lines}
use Rattle.track_reply.specs.Earlier.{numbers_of, walks_of}
use Rattle.track_reply.proofs.lines.append_earlier.Given as goal

abbrev pub invariant-alternatives : goal.invariant-alternatives
invariant-alternatives l =
    l.out.items
    ≡ l.fn.out.items ++ flat_map (λ n. alternative_lines l.map n (walks_of l.earlier n)) (take l.number (numbers_of l.earlier))
