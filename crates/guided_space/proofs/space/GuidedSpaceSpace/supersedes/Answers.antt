use Rattle.std.proofs.Common.{◌∙◌, Some, ap, sym, subst}
use Rattle.bike_space.specs.Kept.{task_of}
use Rattle.bike_space.specs.Tasks.{rules_of}
use Rattle.cost_model.specs.declared.parts.Carry.{Carry}
use Rattle.ride_bounds.specs.Guides.{low_by}
use Rattle.space_search.specs.Laws.{Supersedes, SupersedesByCost}
use Rattle.guided_space.proofs.RuleLemmas.{bounded-rules, covers-link, supersedes-bounded}
use Rattle.guided_space.proofs.space.GuidedSpaceSpace.supersedes.Goals as goal

pub returns-then-a-b-clause-sound : goal.returns-then-a-b-clause-sound
returns-then-a-b-clause-sound g c yes_ =
    let it = c.args.self.now in
    let space = it.space.now in
    let terrain = g.G.TerrainOf.terrain space.terrain in
    let task = task_of terrain space.kept in
    let low = low_by terrain it.guide.now space.kept.target in
    let a = c.args.a.now in
    let b = c.args.b.now in
    subst (λ r. Supersedes r a c.args.ca b c.args.cb) (sym (bounded-rules task low (Some 0)))
    (supersedes-bounded (rules_of task) (λ (carry : Carry). low carry.link) a b c.args.ca c.args.cb
    (λ state cost covers. ap low (c.if-a-b.true ∙ covers-link task b state c.args.cb cost covers))
    (c.supersedes.ensures.by_cost yes_))
