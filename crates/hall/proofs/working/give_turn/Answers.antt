use Rattle.std.proofs.Common.{IfOk, Result, arith, refl, subst, ℕ}
use Rattle.std.specs.Vec.{with_item}
use Rattle.hall.proofs.FrontLemmas.{front_place, front_waits, works_by}
use Rattle.hall.proofs.PeerFindLemmas.{at_within}
use Rattle.hall.proofs.PeerLemmas.{one_at}
use Rattle.hall.proofs.WorkingLemmas.{works_idle}
use Rattle.hall.proofs.working.give_turn.Goals as goal
use Rattle.hall.specs.Parts.{IsAt}
use Rattle.hall.specs.declared.desk.Desk.{Desk}
use Rattle.hall.specs.declared.room.Room.{Room}

pub unwrap-k-requires : goal.unwrap-k-requires
unwrap-k-requires c =
    front_place c.args.room.now c.requires.held c.in-Some.id c.pop_front.new.self.items c.in-Some.ensures.items c.place_of.result
    c.place_of.ensures.absent

pub index_mut-requires : goal.index_mut-requires
index_mut-requires c =
    let peers = c.args.room.now.peers in
    let place = subst (λ (r : Result ℕ ℕ). IfOk r (IsAt peers.items c.in-Some.id)) c.unwrap-k.ensures c.place_of.ensures.found in
    omega (arith, at_within peers.items c.in-Some.id c.unwrap-k.result place, peers.ok.0)

pub worked-requires : goal.worked-requires
worked-requires c =
    let room = c.args.room.now in
    let peer = c.index_mut.result.now in
    let place = subst (λ (r : Result ℕ ℕ). IfOk r (IsAt room.peers.items c.in-Some.id)) c.unwrap-k.ensures c.place_of.ensures.found in
    let front = front_waits room c.requires.held c.in-Some.id c.pop_front.new.self.items c.in-Some.ensures.items c.unwrap-k.result
    peer place c.index_mut.ensures.value in
    record {
      kept = c.requires.held.kept;
      waits = front.waits;
      search = c.requires.held.searching peer (one_at room.peers.items c.unwrap-k.result peer front.there);
    }

pub returns-in-None-clause-works : goal.returns-in-None-clause-works
returns-in-None-clause-works c =
    let room = c.args.room.now in
    let new : Room = record { peers = room.peers; desk = record room.desk { queue = c.pop_front.new.self } } in
    works_idle room new refl refl c.in-None.ensures.items c.in-None.ensures.rest

pub returns : goal.returns
returns c =
    let room = c.args.room.now in
    let k = c.unwrap-k.result in
    let peer = c.index_mut.result.now in
    let made = c.worked.new.peer in
    let desk : Desk = record room.desk { queue = c.pop_front.new.self } in
    let new : Room = record { peers = with_item room.peers k made; desk = c.worked.new.desk } in
    let place = subst (λ (r : Result ℕ ℕ). IfOk r (IsAt room.peers.items c.in-Some.id)) c.unwrap-k.ensures c.place_of.ensures.found in
    let front = front_waits room c.requires.held c.in-Some.id c.pop_front.new.self.items c.in-Some.ensures.items k peer place
    c.index_mut.ensures.value in
    let worked = works_by room new c.requires.held k peer made (record { there = front.there; now = refl; roomy = refl }) c.in-Some.id desk
    c.in-Some.ensures.items front.own c.worked.ensures.works refl refl refl refl in
    record { works = worked.is; held = worked.held; same = worked.same }
