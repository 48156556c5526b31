use Rattle.std.proofs.Common.{ap, length, ◌∙◌}
use Rattle.cost_model.specs.Prices.{Prices}
use Rattle.overpass_graph.specs.Maps.{MapValue}
use Rattle.bike_space.specs.Kept.{task_of}
use Rattle.bike_space.proofs.PlainLemmas.{carried-by}
use Rattle.bike_space.proofs.space.BikeSpace.has_state.Goals as goal

pub returns : goal.returns
returns g c =
    let self = c.args.self.now in
    let leg = (task_of (g.G.TerrainOf.terrain self.terrain) self.kept).leg in
    record {
      value = c.is_carried.ensures.value
          ∙ carried-by leg c.args.state.now _ _
          (c.links.ensures.value ∙ ap (λ (m : MapValue). length m.links) c.map.ensures.value)
          (ap (λ (p : Prices). p.limits.most) c.rates-rates.ensures.value);
    }
