use Rattle.std.proofs.Common.{ap, ◌∙◌}
use Rattle.std.proofs.lemmas.Result.{IfOk-from_err}
use Rattle.bike_space.specs.declared.rested.Rested.{Rested}
use Rattle.bike_space.specs.Kept.{task_of}
use Rattle.bike_space.proofs.PlainLemmas.{none-blind}
use Rattle.bike_space.proofs.space.BikeSpace.plain.Goals as goal

pub returns-clause-radius : goal.returns-clause-radius
returns-clause-radius g c =
    ap (λ (kept : Rested). kept.low.radius) c.wake.ensures.kept ∙ c.in_ok-kept.ensures.radius

pub returns-clause-blind : goal.returns-clause-blind
returns-clause-blind g c =
    let terrain = g.G.TerrainOf.terrain c.args.terrain in
    none-blind (task_of terrain c.wake.result.kept)
    (λ link within. ap (λ (kept : Rested). (task_of terrain kept).low link) c.wake.ensures.kept ∙ c.in_ok-kept.ensures.none link within)

pub returns-in_err-kept : goal.returns-in_err-kept
returns-in_err-kept g c =
    let no = c.from_residual.ensures.0 in
    record {
      terrain = IfOk-from_err _ _ no;
      leg = IfOk-from_err _ _ no;
      unused = IfOk-from_err _ _ no;
      wakes = IfOk-from_err _ _ no;
      radius = IfOk-from_err _ _ no;
      blind = IfOk-from_err _ _ no;
    }
