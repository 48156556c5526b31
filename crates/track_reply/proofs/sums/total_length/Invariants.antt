use Rattle.std.proofs.Common.{◌≡◌, ◌≤◌, ◌*◌, ◌^◌, take}
use Rattle.std.specs.List.{sum_by}
use Rattle.track_legs.specs.declared.row.Row.{Row}
use Rattle.track_reply.proofs.sums.total_length.Given as goal

abbrev pub invariant-rows : goal.invariant-rows
invariant-rows g l =
    (l.sum ≡ sum_by (λ (row : Row). ((g.F.FactsOf.links l.facts).facts row.link).arrow.len) (take l.place l.rows))
    × (l.sum ≤ l.place * 2 ^ 64)
