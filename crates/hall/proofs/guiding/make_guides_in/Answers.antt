use Rattle.hall.proofs.RoomLemmas.{held-again}
use Rattle.hall.proofs.guiding.make_guides_in.Goals as goal

pub make_guides-requires : goal.make_guides-requires
make_guides-requires c = record { kept = c.requires.held.kept }

pub returns-clause-held : goal.returns-clause-held
returns-clause-held c =
    held-again c.args.room.now c.make_guides.new.kept c.requires.held c.make_guides.ensures.kept c.make_guides.ensures.stay
