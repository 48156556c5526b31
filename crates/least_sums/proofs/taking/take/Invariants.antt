use Rattle.std.proofs.Common.{◌+◌, ◌≤◌}
use Rattle.overpass_graph.specs.Maps.{roads_of}
use Rattle.least_sums.specs.Findings.{EndsWhole}
use Rattle.least_sums.specs.States.{IsOpen, state_of, work}
use Rattle.least_sums.proofs.taking.take.Given as goal

abbrev pub invariant-entries : goal.invariant-entries
invariant-entries g l =
    let prices = (g.P.LinkPrices.priced l.prices).price in
    let now = state_of g.N.Amount.number l.board in
    record {
      state : IsOpen (roads_of l.map) prices l.target g.N.Amount.FAR now;
      falls : work now + l._taken ≤ work (state_of g.N.Amount.number l.initial.board);
      whole : EndsWhole l.initial.near l.near;
    }
