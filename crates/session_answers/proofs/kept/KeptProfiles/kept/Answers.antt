use Rattle.std.proofs.Common.{refl}
use Rattle.session_answers.proofs.kept.KeptProfiles.kept.Goals as goal

pub returns-in-Ok-clause-cause : goal.returns-in-Ok-clause-cause
returns-in-Ok-clause-cause c = tt

pub returns-in-Err : goal.returns-in-Err
returns-in-Err c = record { kept = λ _ _ kept _. kept; same = tt; cause = refl }
