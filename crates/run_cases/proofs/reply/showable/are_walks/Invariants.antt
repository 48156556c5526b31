use Rattle.std.proofs.Common.{◌<◌, ℕ, [], get_or, length}
use Rattle.track_legs.specs.Rows.{AreBelow}
use Rattle.run_cases.proofs.reply.showable.are_walks.Given as goal

abbrev pub invariant-walks : goal.invariant-walks
invariant-walks l = (k : ℕ) → k < l.place → AreBelow (length l.map.links) (get_or l.walks k [])
