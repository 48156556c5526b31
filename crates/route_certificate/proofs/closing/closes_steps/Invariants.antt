use Rattle.std.proofs.Common.{◌≡◌, ℕ, ◌<◌, Some}
use Rattle.std.specs.List.{slice_get}
use Rattle.route_certificate.specs.Closing.{ClosesStepsOf}
use Rattle.certificate_text.specs.declared.certificate.Entry.{Entry}
use Rattle.route_certificate.proofs.closing.closes_steps.Given as goal

abbrev pub invariant-entries : goal.invariant-entries
invariant-entries g l = (place : ℕ) (entry : Entry) → place < l.place → slice_get l.entries place ≡ Some entry →
    ClosesStepsOf (g.S.Space.rules l.space) l.least l.entries entry
