use Rattle.std.proofs.Common.{◌<◌, ℕ}
use Rattle.session_answers.specs.Makings.{StandsAt}
use Rattle.session_answers.proofs.makings.Makings.find.Given as goal

abbrev pub invariant-slots : goal.invariant-slots
invariant-slots l = (i : ℕ) → i < l.k → StandsAt l.self.slots.items l.key i → ⊥
