-- The moves find a reading, and fronts are unique.
use Rattle.json_text.proofs.Exists.{reading}
use Rattle.json_text.proofs.Verdicts.{unique}
use Rattle.json_text.proofs.reading.one_reading.Goals as goal

pub returns : goal.returns
returns c = record { found = reading; only = unique }
