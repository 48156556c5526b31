use Rattle.std.proofs.Common.{◌∙◌}
use Rattle.profile_code.proofs.StepLemmas.{listed_any}
use Rattle.profile_code.proofs.step.is_listed.Goals as goal

pub returns : goal.returns
returns c = record { exact = c.contains.ensures.value ∙ listed_any c.args.number c.args.asked.now }
