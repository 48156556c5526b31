use Rattle.std.proofs.Common.{subst, arith}
use Rattle.bike_space.specs.Kept.{task_of}
use Rattle.cost_table.specs.Reaches.{IsStage}
use Rattle.cost_table.proofs.reach.Reach.turn.Goals as goal

pub go_on-requires-clause-way : goal.go_on-requires-clause-way
go_on-requires-clause-way g c =
    let space = c.args.space.now in
    let task = task_of (g.G.TerrainOf.terrain space.terrain) space.kept in
    let on = c.requires.on in
    let stands = subst (IsStage task c.args.self.now) c.in-Running.is on.stands in
    record { of = on.of; from = on.from; counted = stands.0; within = on.within; found = stands.1 }

pub returns-in-Done-clause-within : goal.returns-in-Done-clause-within
returns-in-Done-clause-within g c = c.requires.on.within

pub returns-in-Spent-clause-exact : goal.returns-in-Spent-clause-exact
returns-in-Spent-clause-exact g c =
    let space = c.args.space.now in
    let task = task_of (g.G.TerrainOf.terrain space.terrain) space.kept in
    let spent = subst (IsStage task c.args.self.now) c.in-Spent.is c.requires.on.stands in
    spent.1

pub returns-in-Spent-clause-counts : goal.returns-in-Spent-clause-counts
returns-in-Spent-clause-counts g c =
    let space = c.args.space.now in
    let task = task_of (g.G.TerrainOf.terrain space.terrain) space.kept in
    let spent = subst (IsStage task c.args.self.now) c.in-Spent.is c.requires.on.stands in
    (omega (arith, c.requires.some), spent.0)

pub returns-in-Spent-clause-within : goal.returns-in-Spent-clause-within
returns-in-Spent-clause-within g c = c.requires.on.within

pub returns-in-Failed-clause-within : goal.returns-in-Failed-clause-within
returns-in-Failed-clause-within g c = c.requires.on.within
