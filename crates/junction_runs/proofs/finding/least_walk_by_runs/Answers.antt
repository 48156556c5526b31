use Rattle.std.proofs.Common.{◌≢◌, ℕ, ◌*◌, ◌≤◌, arith}
use Rattle.std.proofs.lemmas.Result.{IfOk-weaker}
use Rattle.space_search.specs.Limits.{HasFewPerCell, IsUnspent}
use Rattle.bike_space.specs.Kept.{task_of}
use Rattle.bike_space.specs.Tasks.{rules_of}
use Rattle.bike_space.proofs.CallerLemmas.{few-flat, few-held}
use Rattle.junction_runs.specs.RunAnswers.{AnswersByRuns}
use Rattle.junction_runs.specs.RunRules.{run_rules}
use Rattle.junction_runs.proofs.EnoughLemmas.{few-along, leg-for-runs}
use Rattle.junction_runs.proofs.LegLemmas.{moved}
use Rattle.junction_runs.proofs.finding.least_walk_by_runs.Goals as goal

pub new-runs-requires : goal.new-runs-requires
new-runs-requires g c =
    let space = c.args.space.now in
    let task = task_of (g.G.TerrainOf.terrain space.terrain) space.kept in
    record { over = leg-for-runs task space.wakes.lawful }

pub walk_outcome-requires : goal.walk_outcome-requires
walk_outcome-requires g c = record { answers = (c.args.limit, c.in_ok-outcome.ensures.answers) }

pub returns-clause-answers : goal.returns-clause-answers
returns-clause-answers g c =
    let space = c.args.space.now in
    let task = task_of (g.G.TerrainOf.terrain space.terrain) space.kept in
    IfOk-weaker c.walk_outcome.result _ (AnswersByRuns task.leg task.used task.radius c.args.limit)
    (λ outcome told.
    moved c.new-runs.ensures.space
    (λ s. s.kept.start ≢ s.kept.target →
    (let t = task_of (g.G.TerrainOf.terrain s.terrain) s.kept in AnswersByRuns t.leg t.used t.radius c.args.limit outcome))
    (told c.args.limit c.requires.small c.in_ok-outcome.ensures.answers) c.requires.differ)
    c.walk_outcome.ensures.told

pub returns-clause-enough : goal.returns-clause-enough
returns-clause-enough g c flat within =
    let space = c.args.space.now in
    let task = task_of (g.G.TerrainOf.terrain space.terrain) space.kept in
    let enough =
    moved c.new-runs.ensures.space
    (λ s. (most : ℕ) → HasFewPerCell (run_rules (rules_of (task_of (g.G.TerrainOf.terrain s.terrain) s.kept))) most →
    (task_of (g.G.TerrainOf.terrain s.terrain) s.kept).leg.ride.roads.links * most ≤ c.args.limit →
    IsUnspent c.in_ok-outcome.outcome)
    c.in_ok-outcome.ensures.enough in
    c.walk_outcome.ensures.unspent (enough 1 (few-along (rules_of task) 1 (few-flat task flat)) (omega (arith, within)))

pub returns-clause-always : goal.returns-clause-always
returns-clause-always g c within =
    let space = c.args.space.now in
    let task = task_of (g.G.TerrainOf.terrain space.terrain) space.kept in
    let enough =
    moved c.new-runs.ensures.space
    (λ s. (most : ℕ) → HasFewPerCell (run_rules (rules_of (task_of (g.G.TerrainOf.terrain s.terrain) s.kept))) most →
    (task_of (g.G.TerrainOf.terrain s.terrain) s.kept).leg.ride.roads.links * most ≤ c.args.limit →
    IsUnspent c.in_ok-outcome.outcome)
    c.in_ok-outcome.ensures.enough in
    c.walk_outcome.ensures.unspent (enough _ (few-along (rules_of task) _ (few-held task space.wakes.lawful)) within)
