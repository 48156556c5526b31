use Rattle.command_words.proofs.FitLemmas.{read-is_fit}
use Rattle.command_words.proofs.command.command_of.Goals as goal

pub returns-in-Some-clause-fit : goal.returns-in-Some-clause-fit
returns-in-Some-clause-fit c = read-is_fit c.in-Some.command _ c.command_with.result c.command_with.ensures.exact
