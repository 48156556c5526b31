-- The law of what is stored, by the induction over a run.
use Rattle.hall.proofs.UploadLemmas.{stores_uploads}
use Rattle.hall.proofs.law.accepted_uploads_are_stored.Goals as goal

pub returns : goal.returns
returns c = record { law = stores_uploads }
