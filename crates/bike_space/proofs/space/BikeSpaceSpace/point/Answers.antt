use Rattle.std.proofs.Common.{sym, ◌∙◌, ap, subst, SFits, rules}
use Rattle.std.specs.Int.{w64, w128}
use Rattle.std.proofs.lemmas.Int.{to_z-of_z}
use Rattle.elev_buffer.specs.Covers.{IsPair}
use Rattle.cost_model.specs.Walks.{pair_of}
use Rattle.cost_model.proofs.CallerLemmas.{held-pair}
use Rattle.cost_model.specs.Modes.{modes_before}
use Rattle.cost_model.specs.Parts.{IsHeld}
use Rattle.cost_model.specs.Prices.{Prices}
use Rattle.bike_space.specs.Kept.{task_of}
use Rattle.bike_space.proofs.CarryLemmas.{carried-is}
use Rattle.bike_space.proofs.StepLemmas.{point-found}
use Rattle.bike_space.proofs.space.BikeSpaceSpace.point.Goals as goal

pub sums_of-sums-requires-clause-first : goal.sums_of-sums-requires-clause-first
sums_of-sums-requires-clause-first g c =
    subst IsPair (sym c.pair.ensures.value)
    (held-pair _ (pair_of c.args.state.now) c.down_rate-down.ensures.lawful
    (subst (λ p. IsHeld p (pair_of c.args.state.now)) (sym c.rates-rates.ensures.value)
    (carried-is _ c.args.state.now c.requires.valid).1))

pub returns : goal.returns
returns g c =
    let self = c.args.self.now in
    let terrain = g.G.TerrainOf.terrain self.terrain in
    let leg = (task_of terrain self.kept).leg in
    let d : SFits w64 c.down_rate-down.result = record { sfits = c.down_rate-down.type_inv } in
    let u : SFits w64 c.up_rate-up.result = record { sfits = c.up_rate-up.type_inv } in
    let is = simp (to_z-of_z, d, u) at c.sums_of-sums.ensures.exact in
    let made =
    point-found leg c.args.state.now c.args.cost _ _ _ _ _
    (c.modes.ensures.value ∙ ap (modes_before terrain.links.facts) (g.met.G.TerrainOf.counted self.terrain))
    (c.down_rate-down.ensures.value ∙ ap (λ (p : Prices). p.down_rate) c.rates-rates.ensures.value)
    (c.up_rate-up.ensures.value ∙ ap (λ (p : Prices). p.up_rate) c.rates-rates.ensures.value)
    c.pair.ensures.value is in
    let x : SFits w128 c.sums_of-sums.result.down = search rules in
    let y : SFits w128 c.sums_of-sums.result.up = search rules in
    let z : SFits w128 c.sums_of-sums.result.both = search rules in
    simp (to_z-of_z, x, y, z) (record { value = made })
