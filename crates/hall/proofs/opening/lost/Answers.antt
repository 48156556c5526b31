use Rattle.std.proofs.Common.{arith, refl}
use Rattle.hall.proofs.GoneLemmas.{loses_by}
use Rattle.hall.proofs.PeerFindLemmas.{at_within}
use Rattle.hall.proofs.PeerLemmas.{known_gap}
use Rattle.hall.proofs.opening.lost.Goals as goal
use Rattle.hall.specs.Steps.{stranger}
use Rattle.hall.specs.declared.room.Room.{Room}

pub remove-lost-requires : goal.remove-lost-requires
remove-lost-requires c =
    let peers = c.args.room.now.peers in
    omega (arith, at_within peers.items c.args.id c.in-Ok.k c.in-Ok.ensures.found, peers.ok.0)

pub returns-in-Err-clause-loses : goal.returns-in-Err-clause-loses
returns-in-Err-clause-loses c =
    stranger (known_gap c.args.room.now.peers.items c.args.id c.in-Err.field-0 c.in-Err.ensures.absent)

pub returns : goal.returns
returns c =
    let room = c.args.room.now in
    let new : Room = record { peers = c.remove-lost.new.self; desk = record room.desk { queue = c.left.new.queue } } in
    let lost = loses_by room new c.requires.held c.in-Ok.k c.args.id c.in-Ok.ensures.found c.remove-lost.ensures.items
    c.remove-lost.ensures.capacity
    (record { stored = refl; queue = c.left.ensures.value; same = refl; kept = c.requires.held.kept; kept_same = refl }) in
    record { loses = lost.is; held = lost.held; same = lost.same }
