-- What the end of a search over junction runs says of walks.
use Rattle.std.proofs.Common.{◌≡◌, ◌≢◌, ℕ, ◌<◌, ◌^◌, List, arith, sym, subst}
use Rattle.space_search.specs.Outcome.{Answers}
use Rattle.space_search.specs.declared.outcome.Outcome.TheVariants.{Found}
use Rattle.space_search.specs.declared.outcome.Run.{Run}
use Rattle.bike_space.specs.Alternatives.{IsLeastRanked}
use Rattle.bike_space.specs.Answers.{IsFound}
use Rattle.bike_space.specs.Lawful.{IsTask}
use Rattle.bike_space.specs.LegWalks.{leg_rank}
use Rattle.bike_space.specs.Tasks.{Task, rules_of, walk_by}
use Rattle.bike_space.proofs.CallerLemmas.{keeps-laws, run-small}
use Rattle.junction_runs.specs.Lawful.{DEAREST_RUN}
use Rattle.junction_runs.specs.RunRules.{run_rules}
use Rattle.junction_runs.specs.Written.{written_of}
use Rattle.junction_runs.proofs.EnoughLemmas.{leg-for-runs}
use Rattle.junction_runs.proofs.LegLemmas.{least-runs}
use Rattle.junction_runs.proofs.SpaceLemmas.{run-dearest, run-laws}

-- a found run, written out, is a walk of least rank
pub runs-found :
    (task : Task) → IsTask task → task.leg.start ≢ task.leg.target → (limit : ℕ) → limit < 2 ^ 32 → (run : Run) (links : List ℕ) →
    Answers (run_rules (rules_of task)) limit (Found run) → links ≡ walk_by task.leg (written_of (rules_of task) run.choices) →
    IsFound task.leg task.used (record { links = links; rank = run.cost })
runs-found task lawful differ limit few run links is same =
    let found = least-runs task run.choices run.cost differ is.0 in
    let laws = keeps-laws task lawful in
    let over = leg-for-runs task lawful in
    record {
      least = subst (IsLeastRanked task.leg task.used) (sym same) found.0;
      ranks = subst (λ w. leg_rank task.leg task.used w ≡ run.cost) (sym same) found.1;
      small = run-small (run_rules (rules_of task)) (run-laws (rules_of task) laws over.cheap over.even) DEAREST_RUN
          (run-dearest (rules_of task) laws over.cheap over.even) (omega arith) limit few run is;
    }
