use Rattle.std.proofs.Common.{subst}
use Rattle.overpass_graph.specs.Maps.{MapValue, roads_of}
use Rattle.least_sums.specs.Findings.{IsFinding}
use Rattle.bike_space.specs.Remaining.{priced_by}
use Rattle.bike_space.proofs.opening.Opening.new.Goals as goal

pub returns-clause-opens : goal.returns-clause-opens
returns-clause-opens g c =
    let terrain = g.G.TerrainOf.terrain c.args.terrain.now in
    let found = c.in_ok-finding.ensures in
    let prices = (priced_by terrain c.in_ok-from_slice.field-0.items c.in_ok-from_slice-2.field-0.items).price in
    record {
      start = c.requires.start;
      target = found.target;
      finds = subst (λ (m : MapValue). IsFinding (roads_of m) prices c.in_ok-finding.finding) c.map.ensures.value (found.finds prices);
    }
