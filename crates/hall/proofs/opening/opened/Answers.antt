use Rattle.std.proofs.Common.{refl}
use Rattle.hall.proofs.PeerLemmas.{known_place}
use Rattle.hall.proofs.opening.opened.Goals as goal
use Rattle.hall.specs.Steps.{again}

pub returns-in-Ok : goal.returns-in-Ok
returns-in-Ok c =
    let held = c.requires.held in
    record {
      opens = again (known_place c.args.room.now.peers.items c.args.id c.in-Ok.field-0 held.ascending c.in-Ok.ensures.found);
      held = held;
      same = refl;
    }
