use Rattle.std.proofs.Common.{true, refl}
use Rattle.bike_space.specs.Kept.{task_of}
use Rattle.cost_table.specs.declared.reach.Reach.{Reach}
use Rattle.cost_table.specs.declared.reach.Stage.TheVariants as stage
use Rattle.cost_table.proofs.TurnLemmas.{begun-done, begun-on, begun-way, turned-through}
use Rattle.cost_table.proofs.reach.Reach.first_turn.Goals as goal

pub returns-then-branch-clause-turns : goal.returns-then-branch-clause-turns
returns-then-branch-clause-turns g c =
    let space = c.args.space.now in
    let task = task_of (g.G.TerrainOf.terrain space.terrain) space.kept in
    begun-done task space.wakes.lawful c.requires.unused c.args.self.now c.requires.on c.requires.fresh c.begin.new.self
    c.begin.ensures.want _ c.if-branch.true c.in_ok-begin.ensures.begins

pub returns-then-branch-clause-exact : goal.returns-then-branch-clause-exact
returns-then-branch-clause-exact g c =
    let space = c.args.space.now in
    let task = task_of (g.G.TerrainOf.terrain space.terrain) space.kept in (
      refl,
      begun-on task space.wakes.lawful c.requires.unused c.args.self.now c.requires.on c.requires.fresh c.begin.new.self
          c.begin.ensures.want _ true c.if-branch.true c.in_ok-begin.ensures.begins,
    )

pub go_on-requires-clause-way : goal.go_on-requires-clause-way
go_on-requires-clause-way g c =
    let space = c.args.space.now in
    let task = task_of (g.G.TerrainOf.terrain space.terrain) space.kept in
    begun-way task space.wakes.lawful c.requires.unused c.args.self.now c.requires.on c.requires.fresh c.begin.new.self
    c.begin.ensures.want _ c.if-branch.false c.in_ok-begin.ensures.begins

pub returns-clause-turns : goal.returns-clause-turns
returns-clause-turns g c =
    let space = c.args.space.now in
    let task = task_of (g.G.TerrainOf.terrain space.terrain) space.kept in
    let next : Reach = record c.args.self.now { found = c.begin.new.self; stage = stage.Failed } in
    turned-through task c.args.self.now next c.go_on.new.self c.begin.ensures.want refl refl c.go_on.ensures.turns
