-- A space of a leg that was just opened is lawful.
use Rattle.std.proofs.Common.{◌≡◌, ◌<◌, length, refl, arith}
use Rattle.cost_model.specs.Facts.{AreLinks}
use Rattle.cost_model.specs.Prices.{IsPrices}
use Rattle.cost_model.specs.Rides.{Terrain}
use Rattle.least_sums.specs.Sums.{AreBelow, AreLeastSumsUpTo, sum_of}
use Rattle.overpass_graph.specs.Maps.{IsMap, roads_of}
use Rattle.bike_space.specs.Kept.{Wakes, task_of}
use Rattle.bike_space.specs.Lawful.{IsTask}
use Rattle.bike_space.specs.Remaining.{priced_by}
use Rattle.bike_space.specs.declared.rested.Rested.{Rested}
use Rattle.bike_space.proofs.LawLemmas.{keeps-laws}
use Rattle.bike_space.proofs.SumBoundLemmas.{IsBySums, sums-bound, sums-known, sums-whole}

-- what a space is opened with
pub record OpenedWith (terrain : Terrain) (kept : Rested) : Type 0 where
  pub is_map : IsMap terrain.map
  pub sound : AreLinks terrain.links
  pub is_prices : IsPrices terrain.prices
  pub counted : terrain.links.count ≡ length terrain.map.links
  pub start : kept.start < length terrain.map.nodes
  pub target : kept.target < length terrain.map.nodes
  pub sums :
      AreLeastSumsUpTo (roads_of terrain.map) (priced_by terrain kept.cut.items kept.used.items).price kept.target kept.low
  pub small : AreBelow kept.low.sums

-- its bound is told by sums of nodes
by-sums : (terrain : Terrain) (kept : Rested) → OpenedWith terrain kept → IsBySums (task_of terrain kept) (sum_of kept.low.sums)
by-sums terrain kept is = record {
  roads = is.is_map.roads;
  facts = λ link within. is.sound link (omega (arith, within, is.counted));
  prices = is.is_prices;
  target_in = is.target;
  sums = λ node within. ∣ is.sums.least node within ∣₁;
  small = λ node low within at. omega (arith, is.small node low at);
  low = λ link. refl;
}

-- the search is lawful
task-lawful : (terrain : Terrain) (kept : Rested) → OpenedWith terrain kept → IsTask (task_of terrain kept)
task-lawful terrain kept is = record {
  roads = is.is_map.roads;
  facts = λ link within. is.sound link (omega (arith, within, is.counted));
  prices = is.is_prices;
  start_in = is.start;
  target_in = is.target;
  bound = sums-bound (task_of terrain kept) (sum_of kept.low.sums) (by-sums terrain kept is);
  whole = sums-whole (task_of terrain kept) (sum_of kept.low.sums) (by-sums terrain kept is);
}

-- it may be put to rest and woken
pub opened-wakes : (terrain : Terrain) (kept : Rested) → OpenedWith terrain kept → Wakes terrain kept
opened-wakes terrain kept is =
    let lawful = task-lawful terrain kept is in
    record {
      sums = is.sums.counted;
      lawful = lawful;
      known = sums-known (task_of terrain kept) (sum_of kept.low.sums) (by-sums terrain kept is);
      keeps = keeps-laws (task_of terrain kept) lawful;
    }
