use Rattle.std.proofs.Common.{ℕ, ◌<◌, ◌∙◌, ap, length, refl, subst, sym}
use Rattle.elev_buffer.specs.Covers.{IsPair}
use Rattle.cost_model.specs.Modes.{modes_before}
use Rattle.cost_model.specs.Walks.{pair_of}
use Rattle.cost_model.proofs.CallerLemmas.{held-pair}
use Rattle.overpass_graph.specs.Maps.{MapValue}
use Rattle.bike_space.specs.Kept.{task_of}
use Rattle.bike_space.proofs.CarryLemmas.{carried-is}
use Rattle.bike_space.proofs.StepLemmas.{slot-found, slots-found}
use Rattle.bike_space.proofs.space.BikeSpaceSpace.slot.Goals as goal

pub slot_of-requires-clause-link : goal.slot_of-requires-clause-link
slot_of-requires-clause-link g c =
    let links = c.links.ensures.value ∙ ap (λ (m : MapValue). length m.links) c.map.ensures.value in
    subst (λ (n : ℕ). c.args.state.now.link < n) (sym links) (carried-is _ c.args.state.now c.requires.valid).0

pub slot_of-requires-clause-pair : goal.slot_of-requires-clause-pair
slot_of-requires-clause-pair g c =
    subst IsPair (sym c.pair.ensures.value)
    (held-pair _ (pair_of c.args.state.now) c.args.self.now.wakes.lawful.prices (carried-is _ c.args.state.now c.requires.valid).1)

pub returns : goal.returns
returns g c =
    let self = c.args.self.now in
    let terrain = g.G.TerrainOf.terrain self.terrain in
    let leg = (task_of terrain self.kept).leg in
    let modes = c.modes.ensures.value ∙ ap (modes_before terrain.links.facts) (g.met.G.TerrainOf.counted self.terrain) in
    let links = c.links.ensures.value ∙ ap (λ (m : MapValue). length m.links) c.map.ensures.value in
    record {
      value =
          slot-found leg c.args.state.now _ _ _ _ modes c.pair.ensures.value
          (slots-found leg c.modes.result.now c.links.result _ modes links refl) c.slot_of.ensures.exact;
    }
