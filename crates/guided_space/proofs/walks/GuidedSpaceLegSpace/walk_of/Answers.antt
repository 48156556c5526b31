use Rattle.std.proofs.Common.{Some, sym, subst}
use Rattle.bike_space.specs.Kept.{task_of}
use Rattle.bike_space.specs.Tasks.{rules_of}
use Rattle.cost_model.specs.declared.parts.Carry.{Carry}
use Rattle.ride_bounds.specs.Guides.{low_by}
use Rattle.space_search.specs.Runs.{IsRun}
use Rattle.guided_space.proofs.RuleLemmas.{bounded-rules, run-plain}
use Rattle.guided_space.proofs.walks.GuidedSpaceLegSpace.walk_of.Goals as goal

pub link_of-requires : goal.link_of-requires
link_of-requires g c =
    let it = c.args.self.now in
    let space = it.space.now in
    let terrain = g.G.TerrainOf.terrain space.terrain in
    let task = task_of terrain space.kept in
    let low = low_by terrain it.guide.now space.kept.target in
    let some = c.requires.run in
    record {
      run = record {
        end = some.end;
        cost = some.cost;
        run = run-plain (rules_of task) (λ (carry : Carry). low carry.link)
            (subst (λ r. IsRun r c.args.choices.now some.end some.cost) (bounded-rules task low (Some 0)) some.run);
      };
    }
