use Rattle.std.proofs.Common.{ap, sym, ◌∙◌}
use Rattle.bike_space.specs.Kept.{task_of}
use Rattle.bike_space.specs.Tasks.{is_carried}
use Rattle.route_certificate.proofs.entries.is_in_bounds.Goals as goal

pub returns-then-entry : goal.returns-then-entry
returns-then-entry g c =
    let space = c.args.space.now in
    let leg = (task_of (g.G.TerrainOf.terrain space.terrain) space.kept).leg in
    let same = c.has_state.ensures.value ∙ ap (is_carried leg) c.carry.ensures.value in
    record { exact = (λ yes_is. record { carried = sym same ∙ yes_is; small = c.if-entry.true }, λ is. same ∙ is.carried) }
