use Rattle.std.proofs.Common.{◌<◌, ℕ, [], get_or, length}
use Rattle.track_reply.specs.Showable.{AreWalksBelow}
use Rattle.run_cases.proofs.reply.showable.are_alternatives.Given as goal

abbrev pub invariant-alternatives : goal.invariant-alternatives
invariant-alternatives l = (k : ℕ) → k < l.place → AreWalksBelow (length l.map.links) (get_or l.earlier k [])
