use Rattle.std.proofs.Common.{arith}
use Rattle.std.proofs.lemmas.Result.{IfOk-weaker}
use Rattle.bike_space.specs.Answers.{AnswersLeg}
use Rattle.bike_space.specs.Kept.{task_of}
use Rattle.bike_space.proofs.EnoughLemmas.{few-flat, few-held}
use Rattle.bike_space.proofs.finding.least_walk.Goals as goal

pub walk_outcome-requires : goal.walk_outcome-requires
walk_outcome-requires g c = record { answers = (c.args.limit, c.in_ok-outcome.ensures.answers) }

pub returns-clause-answers : goal.returns-clause-answers
returns-clause-answers g c =
    let space = c.args.space.now in
    let task = task_of (g.G.TerrainOf.terrain space.terrain) space.kept in
    IfOk-weaker c.walk_outcome.result _ (AnswersLeg task.leg task.used task.radius c.args.limit)
    (λ walked told. told c.args.limit c.requires.small c.in_ok-outcome.ensures.answers c.requires.differ) c.walk_outcome.ensures.told

pub returns-clause-enough : goal.returns-clause-enough
returns-clause-enough g c flat within =
    let space = c.args.space.now in
    let task = task_of (g.G.TerrainOf.terrain space.terrain) space.kept in
    c.walk_outcome.ensures.unspent (c.in_ok-outcome.ensures.enough 1 (few-flat task flat) (omega (arith, within)))

pub returns-clause-always : goal.returns-clause-always
returns-clause-always g c within =
    let space = c.args.space.now in
    let task = task_of (g.G.TerrainOf.terrain space.terrain) space.kept in
    c.walk_outcome.ensures.unspent (c.in_ok-outcome.ensures.enough _ (few-held task space.wakes.lawful) within)
