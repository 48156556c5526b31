use Rattle.hall.proofs.EmptyLemmas.{held_readied}
use Rattle.hall.proofs.readying.make_ready_in.Goals as goal

pub make_ready-requires : goal.make_ready-requires
make_ready-requires c = record { fits = c.requires.fits; kept = c.requires.held.kept }

pub returns-clause-held : goal.returns-clause-held
returns-clause-held c = held_readied c.args.room.now c.make_ready.new.kept c.requires.held c.requires.new c.make_ready.ensures.kept
