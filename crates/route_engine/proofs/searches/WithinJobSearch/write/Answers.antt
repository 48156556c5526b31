use Rattle.std.proofs.Common.{refl, subst}
use Rattle.overpass_graph.specs.Maps.{IsMap}
use Rattle.route_engine.specs.Jobs.{setting_of}
use Rattle.route_engine.proofs.NearbyTextLemmas.{found-fit}
use Rattle.route_ready.specs.World.{world_of}
use Rattle.route_engine.proofs.searches.WithinJobSearch.write.Goals as goal

pub new-requires : goal.new-requires
new-requires c =
    let world = world_of c.args.world.now in
    let asked = c.requires.found.0 in
    record {
      fit = found-fit world.map (setting_of world c.args.ready.now asked.circles) asked c.args.found refl
          (subst IsMap c.map.ensures.value c.nodes-count.ensures.lawful) c.requires.found.1;
    }
