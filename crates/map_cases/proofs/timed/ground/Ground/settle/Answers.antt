-- The space of a leg is one for junction runs.
use Rattle.bike_space.specs.Kept.{task_of}
use Rattle.junction_runs.proofs.CallerLemmas.{leg-for-runs}
use Rattle.way_class.specs.Links.{links_of}
use Rattle.map_cases.proofs.timed.ground.Ground.settle.Goals as goal

pub new-requires : goal.new-requires
new-requires c =
    let space = c.args.space.now in
    let task = task_of (record {
      map = space.terrain.map.now;
      links = links_of space.terrain.facts.now;
      prices = space.terrain.rates.now;
    }) space.kept in
    record { over = leg-for-runs task space.wakes.lawful }
