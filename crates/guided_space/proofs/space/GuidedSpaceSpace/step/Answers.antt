use Rattle.std.proofs.Common.{◌≡◌, Some, sym, subst}
use Rattle.bike_space.specs.Kept.{task_of}
use Rattle.ride_bounds.specs.Guides.{low_by}
use Rattle.guided_space.proofs.RuleLemmas.{bounded-rules}
use Rattle.guided_space.proofs.space.GuidedSpaceSpace.step.Goals as goal

pub returns : goal.returns
returns g c =
    let it = c.args.self.now in
    let space = it.space.now in
    let terrain = g.G.TerrainOf.terrain space.terrain in
    record {
      value = subst (λ r. c.step.result ≡ r.step c.args.state.now c.args.number)
          (sym (bounded-rules (task_of terrain space.kept) (low_by terrain it.guide.now space.kept.target) (Some 0)))
          c.step.ensures.value;
    }
