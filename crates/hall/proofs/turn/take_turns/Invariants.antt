-- So many turns are taken.
use Rattle.std.proofs.Common.{◌≡◌, length}
use Rattle.hall.specs.View.{service_of, state_of}
use Rattle.hall.specs.Serving.{AreLive}
use Rattle.hall.specs.Served.{TookTurns}
use Rattle.hall.proofs.turn.take_turns.Given as goal

abbrev pub invariant-turns : goal.invariant-turns
invariant-turns g l = record {
  took : TookTurns (service_of l.fn.hall) (state_of l.fn.hall) (g.H.Hub.seen l.fn.hub) l._turn (state_of l.hall) (g.H.Hub.seen l.hub);
  live : AreLive (state_of l.hall) (g.H.Hub.seen l.hub);
  same : service_of l.hall ≡ service_of l.fn.hall;
  room : length l.buf ≡ 16384;
}
