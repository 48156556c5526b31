use Rattle.hall.proofs.EmptyLemmas.{held_empty, state_empty}
use Rattle.hall.specs.View.{service_of, state_of}
use Rattle.hall.specs.declared.desk.Desk.{Desk}
use Rattle.hall.specs.declared.room.Room.{Room}
use Rattle.route_ready.specs.Shelves.{shelf_of}
use Rattle.route_ready.specs.Entries.{profiles_of}
use Rattle.route_ready.specs.World.{world_of}
use Rattle.session_answers.specs.Profiles.{stored_of}
use Rattle.hall.proofs.hall.Hall.new.Goals as goal

pub invariant_of-result : goal.invariant_of-result
invariant_of-result c =
    let desk : Desk = record {
      alloc = c.args.alloc;
      world = c.args.world;
      labels = c.args.labels;
      profiles = c.new-profiles.result;
      kept = c.in_ok-kept.kept;
      queue = c.in_ok-queue.queue;
    } in
    let room : Room = record { peers = c.in_ok-peers.peers; desk = desk } in
    held_empty room c.in_ok-peers.ensures.items c.in_ok-queue.ensures.items c.in_ok-peers.ensures.capacity
    (c.in_ok-kept.ensures.kept (world_of c.args.world) (profiles_of (stored_of c.new-profiles.result)))

pub returns-clause-empty : goal.returns-clause-empty
unfolding state_of
returns-clause-empty c =
    let desk : Desk = record {
      alloc = c.args.alloc;
      world = c.args.world;
      labels = c.args.labels;
      profiles = c.new-profiles.result;
      kept = c.in_ok-kept.kept;
      queue = c.in_ok-queue.queue;
    } in
    let room : Room = record { peers = c.in_ok-peers.peers; desk = desk } in
    state_empty room c.in_ok-peers.ensures.items c.in_ok-queue.ensures.items (shelf_of c.args.shelf) c.new-profiles.ensures.value

pub returns-clause-service : goal.returns-clause-service
unfolding service_of
returns-clause-service c = λ i. record { world = world_of c.args.world; given = c.new-profiles.ensures.given i; labels = c.args.labels }
