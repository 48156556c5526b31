-- What was told is what the caller sees.
use Rattle.std.proofs.Common.{refl, ◌∙◌, ◌++◌}
use Rattle.json_text.specs.Reading.{BadAt}
use Rattle.json_text.proofs.Growing.{stays}
use Rattle.json_text.proofs.ScannerLemmas.{alike_holds}
use Rattle.json_text.proofs.AnswerLemmas.{told_answers, told_exact}
use Rattle.json_text.proofs.scanner.Scanner.next.Goals as goal

pub returns-clause-value : goal.returns-clause-value
returns-clause-value c bytes ended steps s =
    told_answers c.scan.new.self _ bytes ended steps c.in_ok-answer.answer
    (record { input = refl; machine = refl; read = refl; before = refl; ended = refl })
    (c.scan.ensures.ended ∙ s.ended_is) refl
    (c.in_ok-answer.ensures.value bytes steps
    (alike_holds c.args.self.now _ bytes steps (record { input = refl; machine = refl; read = refl; before = refl; ended = refl }) s.holds))

pub returns-clause-exact : goal.returns-clause-exact
returns-clause-exact c bytes ended steps verdict s r =
    told_exact c.scan.new.self bytes ended steps c.in_ok-answer.answer verdict (c.scan.ensures.ended ∙ s.ended_is)
    (c.in_ok-answer.ensures.value bytes steps
    (alike_holds c.args.self.now _ bytes steps (record { input = refl; machine = refl; read = refl; before = refl; ended = refl }) s.holds))
    r

pub returns-clause-stays : goal.returns-clause-stays
returns-clause-stays c bytes more ended steps at s r =
    told_exact c.scan.new.self (bytes ++ more) ended steps c.in_ok-answer.answer (BadAt at) (c.scan.ensures.ended ∙ s.ended_is)
    (c.in_ok-answer.ensures.value (bytes ++ more) steps
    (alike_holds c.args.self.now _ (bytes ++ more) steps (record { input = refl; machine = refl; read = refl; before = refl; ended = refl })
    s.holds))
    (stays bytes more ended steps at r)
