-- The front of a shorter text begins that of each longer one.
use Rattle.json_text.proofs.Growing.{grows}
use Rattle.json_text.proofs.reading.fixed_steps.Goals as goal

pub returns : goal.returns
returns c = record { grows = grows }
