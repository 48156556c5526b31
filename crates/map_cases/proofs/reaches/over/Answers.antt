use Rattle.std.proofs.Common.{ap, sym, length, arith, ◌∙◌}
use Rattle.cost_model.specs.Rides.{Leg, Terrain}
use Rattle.overpass_graph.specs.Maps.{MapValue}
use Rattle.map_cases.proofs.reaches.over.Goals as goal

pub plain-requires : goal.plain-requires
plain-requires g c =
    let nodes = ap (λ (m : MapValue). length m.nodes) c.requires.map in
    record {
      start = omega (arith, c.requires.from.start, nodes);
      target = omega (arith, c.requires.from.start, nodes);
    }

pub reached-requires : goal.reached-requires
reached-requires g c =
    let space = c.in_ok-space.ensures in
    record {
      start = ap (λ (l : Leg). l.start) space.leg;
      unused = space.unused;
      map = c.requires.map ∙ sym (ap (λ (t : Terrain). t.map) (ap g.G.TerrainOf.terrain space.terrain));
      small = c.requires.from.small;
      some = c.requires.from.some;
    }
