use Rattle.std.proofs.Common.{subst}
use Rattle.cost_model.specs.Prices.{IsPrices}
use Rattle.least_sums.specs.Sums.{AreLeastSumsUpTo}
use Rattle.overpass_graph.specs.Maps.{IsMap, roads_of}
use Rattle.bike_space.specs.Remaining.{priced_by}
use Rattle.bike_space.proofs.OpenLemmas.{opened-wakes}
use Rattle.bike_space.proofs.PlainLemmas.{sums-none, unmarked}
use Rattle.std.proofs.lemmas.Result.{IfOk-from_err}
use Rattle.bike_space.proofs.plain.rested.Goals as goal

pub returns-clause-unused : goal.returns-clause-unused
returns-clause-unused g c = unmarked c.new-used.result.items c.new-used.ensures.items

pub returns-clause-wakes : goal.returns-clause-wakes
returns-clause-wakes g c =
    let terrain = g.G.TerrainOf.terrain c.args.terrain.now in
    let prices = (priced_by terrain c.in_ok-cut.cut.items c.new-used.result.items).price in
    opened-wakes terrain _
    (record {
      is_map = subst IsMap c.map-map.ensures.value c.links-links.ensures.lawful;
      sound = g.met.G.TerrainOf.sound c.args.terrain.now;
      is_prices = subst IsPrices c.rates.ensures.value c.down_rate-rate.ensures.lawful;
      counted = g.met.G.TerrainOf.counted c.args.terrain.now;
      start = c.requires.start;
      target = c.requires.target;
      sums = subst (λ m. AreLeastSumsUpTo (roads_of m) prices c.args.target c.in_ok-low.low) c.map-map.ensures.value
          (c.in_ok-low.ensures.exact prices c.args.target);
      small = c.in_ok-low.ensures.small;
    })

pub returns-clause-none : goal.returns-clause-none
returns-clause-none g c link within =
    let terrain = g.G.TerrainOf.terrain c.args.terrain.now in
    let prices = (priced_by terrain c.in_ok-cut.cut.items c.new-used.result.items).price in
    let is_map = subst IsMap c.map-map.ensures.value c.links-links.ensures.lawful in
    sums-none (roads_of terrain.map) prices c.args.target c.in_ok-low.low c.in_ok-low.ensures.radius
    (subst (λ m. AreLeastSumsUpTo (roads_of m) prices c.args.target c.in_ok-low.low) c.map-map.ensures.value
    (c.in_ok-low.ensures.exact prices c.args.target))
    _ (is_map.roads.to_in link within)

pub returns-in_err-low : goal.returns-in_err-low
returns-in_err-low g c =
    let no = c.from_residual.ensures.0 in
    record {
      leg = IfOk-from_err _ _ no;
      unused = IfOk-from_err _ _ no;
      wakes = IfOk-from_err _ _ no;
      radius = IfOk-from_err _ _ no;
      none = IfOk-from_err _ _ no;
    }

pub returns-in_err-cut : goal.returns-in_err-cut
returns-in_err-cut g c =
    let no = c.from_residual-in_err-cut.ensures.0 in
    record {
      leg = IfOk-from_err _ _ no;
      unused = IfOk-from_err _ _ no;
      wakes = IfOk-from_err _ _ no;
      radius = IfOk-from_err _ _ no;
      none = IfOk-from_err _ _ no;
    }
