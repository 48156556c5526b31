use Rattle.overpass_graph.specs.Maps.{roads_of}
use Rattle.least_sums.specs.Findings.{EndsWhole}
use Rattle.least_sums.specs.States.{IsOpen, state_of, work}
use Rattle.least_sums.proofs.taking.take_all.Given as goal

abbrev pub invariant-rest : goal.invariant-rest
invariant-rest g l = record {
  state : IsOpen (roads_of l.map) (g.P.LinkPrices.priced l.prices).price l.target g.N.Amount.FAR (state_of g.N.Amount.number l.board);
  whole : EndsWhole l.initial.near l.near;
}

abbrev pub decreases-rest : goal.decreases-rest
decreases-rest g l = work (state_of g.N.Amount.number l.board)
