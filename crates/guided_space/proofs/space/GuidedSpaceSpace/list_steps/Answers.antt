use Rattle.std.proofs.Common.{Some, sym, subst}
use Rattle.std.proofs.lemmas.Result.{on_ok_weaker}
use Rattle.std.specs.Prelude.{OnOk}
use Rattle.bike_space.specs.Kept.{task_of}
use Rattle.bike_space.specs.Tasks.{rules_of}
use Rattle.cost_model.specs.declared.parts.Carry.{Carry}
use Rattle.ride_bounds.specs.Guides.{low_by}
use Rattle.space_search.specs.Known.{AreKnown, LeavesKnown}
use Rattle.space_search.specs.Listed.{steps_of}
use Rattle.guided_space.proofs.RuleLemmas.{bounded-rules, known-plain, leaves-bounded}
use Rattle.guided_space.proofs.space.GuidedSpaceSpace.list_steps.Goals as goal

pub list_steps-requires-clause-known : goal.list_steps-requires-clause-known
list_steps-requires-clause-known g c =
    let it = c.args.self.now in
    let space = it.space.now in
    let terrain = g.G.TerrainOf.terrain space.terrain in
    let low = low_by terrain it.guide.now space.kept.target in
    known-plain (rules_of (task_of terrain space.kept)) (λ (carry : Carry). low carry.link) c.args.known.now
    (subst (λ r. AreKnown r c.args.known.now) (bounded-rules (task_of terrain space.kept) low (Some 0)) c.requires.known)

pub returns : goal.returns
returns g c =
    let it = c.args.self.now in
    let space = it.space.now in
    let terrain = g.G.TerrainOf.terrain space.terrain in
    let task = task_of terrain space.kept in
    let low = low_by terrain it.guide.now space.kept.target in
    let known = c.args.known.now in
    let state = c.args.state.now in
    let found = c.list_steps.new.found in
    record {
      lists =
          subst (λ r. OnOk c.list_steps.result (LeavesKnown r known c.args.cost (steps_of r state) found)) (sym (bounded-rules task low (Some 0)))
          (on_ok_weaker c.list_steps.result
          (leaves-bounded (rules_of task) (λ (carry : Carry). low carry.link) known c.args.cost (steps_of (rules_of task) state) found)
          c.list_steps.ensures.lists);
    }
