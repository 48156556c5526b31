-- A byte is a run.
use Rattle.std.proofs.Common.{refl, arith}
use Rattle.json_text.proofs.BeginLemmas.{pass_on}
use Rattle.json_text.proofs.scanner.Scanner.pass.Goals as goal

pub returns-clause-value : goal.returns-clause-value
returns-clause-value c =
    pass_on c.args.self.now _
    (record { same = refl; onward = omega arith; within = omega (arith, c.requires.left); fewer = omega (arith, c.requires.plain) })
    (omega arith) refl (_, _, c.requires.place, (refl, refl)) refl
