use Rattle.std.proofs.Common.{◌≡◌, ◌+◌, arith, ap, subst}
use Rattle.bike_space.specs.Kept.{task_of}
use Rattle.cost_table.specs.Costs.{Quest}
use Rattle.cost_table.specs.Reaches.{CountsReach, quest_of, settled_of}
use Rattle.map_cases.proofs.reaches.told_by.Goals as goal

pub turns-smaller : goal.turns-smaller
turns-smaller g c =
    let space = c.args.space.now in
    let task = task_of (g.G.TerrainOf.terrain space.terrain) space.kept in
    let turn = c.in_ok-last.ensures in
    let quest = quest_of task c.turns.reach in
    let counted : settled_of c.turn.new.self ≡ settled_of c.turns.reach + c.args.quota =
    subst (CountsReach c.args.quota quest.limit (settled_of c.turns.reach) (settled_of c.turn.new.self)) c.in-More.is turn.counts in
    omega (arith, counted, ap (λ (q : Quest). q.limit) (turn.same task), turn.within, c.requires.some)
