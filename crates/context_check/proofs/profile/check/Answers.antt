use Rattle.context_check.proofs.DefinedLemmas.{IsDefined-accepted}
use Rattle.profile_text.specs.Expr.{sections_in}
use Rattle.context_check.proofs.profile.check.Goals as goal

pub returns-clause-sound : goal.returns-clause-sound
returns-clause-sound c = IsDefined-accepted c.args.table.now (sections_in c.args.profile.now) c.in_ok-check_sections.ensures.exact
