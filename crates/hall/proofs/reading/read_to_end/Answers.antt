use Rattle.hall.specs.Parts.{connection_of}
use Rattle.hall.proofs.reading.read_to_end.Goals as goal

pub returns : goal.returns
returns c = record { settles = c.settled.ensures.settles (connection_of c.args.peer.now) }
