use Rattle.std.proofs.Common.{arith, refl, subst}
use Rattle.std.specs.Vec.{with_item}
use Rattle.hall.proofs.PeerFindLemmas.{at_within}
use Rattle.hall.proofs.ReaderLemmas.{hears_by, reader_is}
use Rattle.hall.specs.Parts.{IsReaderOf}
use Rattle.hall.specs.Steps.{ignored, with_end}
use Rattle.hall.specs.declared.room.Room.{Room}
use Rattle.hall.proofs.reading.ended.Goals as goal

pub index_mut-requires : goal.index_mut-requires
index_mut-requires c =
    let peers = c.args.room.now.peers in
    omega (arith, at_within peers.items c.args.id c.in-Some.k c.in-Some.ensures.exact.place, peers.ok.0)

pub read_to_end-requires : goal.read_to_end-requires
read_to_end-requires c =
    let reader = reader_is c.args.room.now c.requires.held c.in-Some.k c.args.id c.index_mut.result.now c.in-Some.ensures.exact
    c.index_mut.ensures.value in
    record { kept = c.requires.held.kept; read = reader.reads }

pub returns-in-Some : goal.returns-in-Some
returns-in-Some c =
    let room = c.args.room.now in
    let k = c.in-Some.k in
    let made = c.read_to_end.new.peer in
    let new : Room = record { peers = with_item room.peers k made; desk = c.read_to_end.new.desk } in
    let reader = reader_is room c.requires.held k c.args.id c.index_mut.result.now c.in-Some.ensures.exact c.index_mut.ensures.value in
    let heard = hears_by room new c.requires.held k c.index_mut.result.now made
    (record { there = reader.there; now = refl; roomy = refl }) c.args.id with_end (λ d. (refl, refl)) reader
    c.read_to_end.ensures.settles in
    record { hears = heard.is; held = heard.held; same = heard.same }

pub returns-in_default-clause-hears : goal.returns-in_default-clause-hears
returns-in_default-clause-hears c =
    ignored (subst (IsReaderOf c.args.room.now.peers.items c.args.id) c.in_default.is c.reader_of.ensures.exact)
