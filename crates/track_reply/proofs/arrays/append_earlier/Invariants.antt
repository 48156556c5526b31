use Rattle.std.proofs.Common.{◌≡◌, ◌++◌, take}
use Rattle.std.specs.List.{join_by}
use Rattle.track_reply.specs.Earlier.{numbers_of, walks_of}
use Rattle.track_reply.specs.GeoJson.{alternative_array}
use Rattle.track_reply.specs.Joined.{comma}
use Rattle.track_reply.proofs.arrays.append_earlier.Given as goal

abbrev pub invariant-alternatives : goal.invariant-alternatives
invariant-alternatives l =
    l.out.items
    ≡ l.fn.out.items ++ join_by (λ n. alternative_array l.map (walks_of l.earlier n)) comma (take l.number (numbers_of l.earlier))
