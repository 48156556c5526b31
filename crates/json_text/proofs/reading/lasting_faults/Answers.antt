-- The front of a fault is one for each longer text.
use Rattle.json_text.proofs.Growing.{stays}
use Rattle.json_text.proofs.reading.lasting_faults.Goals as goal

pub returns : goal.returns
returns c = record { stays = stays }
