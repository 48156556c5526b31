use Rattle.std.proofs.Common.{subst}
use Rattle.cost_model.specs.Prices.{IsPrices}
use Rattle.overpass_graph.specs.Maps.{IsMap}
use Rattle.bike_space.proofs.OpenLemmas.{opened-wakes}
use Rattle.bike_space.proofs.opening.Asked.rested.Goals as goal

pub returns-clause-wakes : goal.returns-clause-wakes
returns-clause-wakes g c =
    opened-wakes (g.G.TerrainOf.terrain c.args.terrain.now) _
    (record {
      is_map = subst IsMap c.map-map.ensures.value c.links-links.ensures.lawful;
      sound = g.met.G.TerrainOf.sound c.args.terrain.now;
      is_prices = subst IsPrices c.rates.ensures.value c.down_rate-rate.ensures.lawful;
      counted = g.met.G.TerrainOf.counted c.args.terrain.now;
      start = c.requires.start;
      target = c.requires.target;
      sums = c.requires.sums;
      small = c.requires.small;
    })
