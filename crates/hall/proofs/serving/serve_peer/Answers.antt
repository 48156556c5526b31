-- A connection is served, and stays at its place or is gone.
use Rattle.std.proofs.Common.{◌≡◌, ◌∙◌, ap, get_or-set_same, length, refl, ℕ}
use Rattle.std.proofs.lemmas.Option.{slice_get_read}
use Rattle.std.specs.Vec.{with_item}
use Rattle.hall.proofs.RoomLemmas.{there_known}
use Rattle.hall.proofs.ServingLemmas.{place_gone, place_kept, remove_set}
use Rattle.hall.proofs.serving.serve_peer.Goals as goal
use Rattle.hall.specs.Parts.{connection_of}
use Rattle.hall.specs.State.{without}
use Rattle.hall.specs.declared.peer.Peer.{Peer}
use Rattle.hall.specs.declared.room.Room.{Room}

pub served-requires : goal.served-requires
served-requires g c =
    let room = c.args.room.now in
    let peer = c.index_mut.result.now in
    let there = slice_get_read room.peers.items (length room.peers.items) c.args.k peer refl c.requires.there c.index_mut.ensures.value in
    record { live = c.requires.live peer.id (connection_of peer) (there_known room c.requires.held c.args.k peer there) }

pub returns-then-served : goal.returns-then-served
returns-then-served g c =
    let room = c.args.room.now in
    let peer = c.index_mut.result.now in
    let made = c.served.new.peer in
    let there = slice_get_read room.peers.items (length room.peers.items) c.args.k peer refl c.requires.there c.index_mut.ensures.value in
    let new : Room = record { peers = with_item room.peers c.args.k made; desk = room.desk } in
    let kept = place_kept room new c.requires.held c.args.k peer made (record { there = there; now = refl; roomy = refl }) refl
    (g.H.Hub.seen c.args.hub.now) (g.H.Hub.seen c.served.new.hub) c.requires.live c.if-served.ensures.kept c.if-served.ensures.served in
    record { served = kept.served; rest = kept.rest; live = kept.live; held = kept.held; same = kept.same }

pub returns : goal.returns
returns g c =
    let room = c.args.room.now in
    let peer = c.index_mut.result.now in
    let made = c.served.new.peer in
    let there = slice_get_read room.peers.items (length room.peers.items) c.args.k peer refl c.requires.there c.index_mut.ensures.value in
    let new : Room = record { peers = c.remove-gone.new.self; desk = record room.desk { queue = c.left.new.queue } } in
    let is = get_or-set_same room.peers.items c.args.k made c.remove-gone.result c.requires.there in
    let own : c.remove-gone.result.id ≡ peer.id =
    ap (λ (p : Peer). p.id) (c.remove-gone.ensures.value ∙ is) ∙ c.if-served.ensures.kept.own in
    let gone = place_gone room new c.requires.held c.args.k peer there
    (c.remove-gone.ensures.items ∙ remove_set room.peers.items c.args.k made) c.remove-gone.ensures.capacity
    (record {
      stored = refl;
      queue = c.left.ensures.value ∙ ap (λ (i : ℕ). without i room.desk.queue.items) own;
      same = refl;
      kept = c.requires.held.kept;
      kept_same = refl;
    })
    (g.H.Hub.seen c.args.hub.now) (g.H.Hub.seen c.served.new.hub) c.requires.live c.if-served.ensures.served in
    record { served = gone.served; rest = gone.rest; live = gone.live; held = gone.held; same = gone.same }
