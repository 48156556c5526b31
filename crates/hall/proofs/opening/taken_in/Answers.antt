use Rattle.std.proofs.Common.{arith, false, refl, true}
use Rattle.hall.proofs.OpeningLemmas.{has_place, is_full, opens_away, opens_held}
use Rattle.hall.proofs.PeerLemmas.{known_gap}
use Rattle.hall.proofs.opening.taken_in.Goals as goal
use Rattle.hall.specs.Steps.{full}
use Rattle.hall.specs.declared.room.Room.{Room}

pub placed-requires : goal.placed-requires
placed-requires c = record {
  within = c.requires.new.within;
  roomy = has_place c.args.room.now c.requires.held false (omega (arith, c.count.ensures.exact, c.if-count-lt-MOST_SESSIONS.true));
}

pub placed-requires-then-count-lt-MOST_SESSIONS-2 : goal.placed-requires-then-count-lt-MOST_SESSIONS-2
placed-requires-then-count-lt-MOST_SESSIONS-2 c = record {
  within = c.requires.new.within;
  roomy = has_place c.args.room.now c.requires.held true (omega (arith, c.count-2.ensures.exact, c.if-count-lt-MOST_SESSIONS-2.true));
}

pub returns-then-count-lt-MOST_SESSIONS : goal.returns-then-count-lt-MOST_SESSIONS
returns-then-count-lt-MOST_SESSIONS c =
    let room = c.args.room.now in
    let new : Room = record { peers = c.placed.new.peers; desk = room.desk } in
    let opens = opens_held room new c.requires.held c.args.id c.args.k
    (record {
      gap = c.requires.new;
      peer = c.session-peer.result;
      desk = refl;
      placed = c.placed.ensures.placed;
      roomy = c.placed.ensures.roomy;
      is = c.session-peer.ensures.value;
    }) (omega (arith, c.count.ensures.exact, c.if-count-lt-MOST_SESSIONS.true)) in
    record { opens = opens.is; held = opens.held; same = opens.same }

pub returns-then-count-lt-MOST_SESSIONS-2 : goal.returns-then-count-lt-MOST_SESSIONS-2
returns-then-count-lt-MOST_SESSIONS-2 c =
    let room = c.args.room.now in
    let placed = c.placed-then-count-lt-MOST_SESSIONS-2 in
    let new : Room = record { peers = placed.new.peers; desk = room.desk } in
    let many = is_full room c.requires.held false (omega (arith, c.count.ensures.exact, c.if-count-lt-MOST_SESSIONS.false)) in
    let opens = opens_away room new c.requires.held c.args.id c.args.k
    (record {
      gap = c.requires.new;
      peer = c.turned_away-peer.result;
      desk = refl;
      placed = placed.ensures.placed;
      roomy = placed.ensures.roomy;
      is = c.turned_away-peer.ensures.value;
    }) many (omega (arith, c.count-2.ensures.exact, c.if-count-lt-MOST_SESSIONS-2.true)) in
    record { opens = opens.is; held = opens.held; same = opens.same }

pub returns-clause-opens : goal.returns-clause-opens
returns-clause-opens c =
    let room = c.args.room.now in
    full (known_gap room.peers.items c.args.id c.args.k c.requires.new)
    (is_full room c.requires.held false (omega (arith, c.count.ensures.exact, c.if-count-lt-MOST_SESSIONS.false)))
    (is_full room c.requires.held true (omega (arith, c.count-2.ensures.exact, c.if-count-lt-MOST_SESSIONS-2.false)))
