-- What is told by a step, or where nothing is left.
use Rattle.std.specs.Prelude.{MatchOption}
use Rattle.json_text.specs.Scanner.{Holds}
use Rattle.json_text.specs.Told.{Told}
use Rattle.json_text.proofs.scanner.Scanner.scan.Goals as goal
use Rattle.std.proofs.Common.{subst}

pub returns-in-Some-clause-value : goal.returns-in-Some-clause-value
returns-in-Some-clause-value c bytes steps h =
    subst (λ f. MatchOption f (Holds c.step.new.self bytes steps) (λ answer. Told answer c.step.new.self bytes steps)) c.in-Some.is
    (c.in_ok-answer.ensures.value bytes steps
    (c.in_ok-advance.ensures.value.holds bytes steps (c.symbols.invariant.holds bytes steps h)))

pub returns-clause-value : goal.returns-clause-value
returns-clause-value c bytes steps h = c.last.ensures.value bytes steps (c.symbols.invariant.holds bytes steps h)
