use Rattle.std.proofs.Common.{◌≡◌, ◌≤◌, ◌+◌, false, drop}
use Rattle.profile_text.specs.Token.{tokens_from}
use Rattle.profile_text.proofs.next.gap.Given as goal

abbrev pub invariant-skip : goal.invariant-skip
invariant-skip l =
    (tokens_from false (l.before + 1) l.text ≡ tokens_from l.comment (l.breaks + 1) (drop l.i l.text))
    × (l.breaks ≤ l.before + l.i)
