-- So many are served, and those behind them stand behind those of them that stay.
use Rattle.std.proofs.Common.{◌≡◌, ◌≤◌, drop, take}
use Rattle.hall.proofs.PeerCountLemmas.{ids_of}
use Rattle.hall.proofs.serving.serve_peers.Given as goal
use Rattle.hall.specs.Parts.{IsHeld, service_in, state_in}
use Rattle.hall.specs.Serving.{AreLive, ServedEach}

abbrev pub invariant-peers : goal.invariant-peers
invariant-peers g l = record {
  served : ServedEach (state_in l.fn.room) (g.H.Hub.seen l.fn.hub) (ids_of (take l._served l.fn.room.peers.items)) (state_in l.room)
      (g.H.Hub.seen l.hub);
  rest : drop l.k l.room.peers.items ≡ drop l._served l.fn.room.peers.items;
  few : l.k ≤ l._served;
  live : AreLive (state_in l.room) (g.H.Hub.seen l.hub);
  held : IsHeld l.room;
  same : service_in l.room ≡ service_in l.fn.room;
}
