use Rattle.std.proofs.Common.{◌≡◌, drop}
use Rattle.context_check.specs.Refusal.{override_refusal}
use Rattle.context_check.proofs.profile.override_fault.Given as goal

abbrev pub invariant-overrides : goal.invariant-overrides
invariant-overrides l =
    override_refusal 0 l.overrides l.names ≡ override_refusal l.place (drop l.place l.overrides) l.names
