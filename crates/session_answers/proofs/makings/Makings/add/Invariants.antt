use Rattle.std.proofs.Common.{◌≡◌}
use Rattle.session_answers.proofs.makings.Makings.add.Given as goal

abbrev pub invariant-slots : goal.invariant-slots
invariant-slots l = l.self ≡ l.initial.self
