use Rattle.overpass_graph.specs.Maps.{roads_of}
use Rattle.least_sums.specs.States.{state_of}
use Rattle.least_sums.proofs.BeginLemmas.{begins-lowered}
use Rattle.least_sums.proofs.ending.begun.Goals as goal

pub returns : goal.returns
returns g c = record {
  state = λ prices.
      let both =
      begins-lowered (roads_of c.args.map.now) prices c.args.target g.N.Amount.FAR c.nodes.result
      (state_of g.N.Amount.number c.in_ok-board.board) (state_of g.N.Amount.number c.lower.new.self)
      c.nodes.ensures.lawful.roads c.requires.in_range g.met.N.Amount.some c.nodes.ensures.value c.in_ok-board.ensures.value
      c.in_ok-lower.ensures.value in
      record { is_state = both.0; done = both.1 };
}
