-- What the end of a search says of walks.
use Rattle.std.proofs.Common.{◌≡◌, ◌≢◌, ℕ, ◌<◌, ◌≤◌, ◌^◌, ◌-◌, List, length, arith, sym, subst}
use Rattle.space_search.specs.Laws.{IsDearest, IsSpace}
use Rattle.space_search.specs.Outcome.{Answers}
use Rattle.space_search.specs.Rules.{Rules}
use Rattle.space_search.specs.declared.outcome.Outcome.TheVariants.{Found}
use Rattle.space_search.specs.declared.outcome.Run.{Run}
use Rattle.bike_space.specs.Alternatives.{IsLeastRanked}
use Rattle.bike_space.specs.Answers.{IsFound}
use Rattle.bike_space.specs.Lawful.{IsTask}
use Rattle.bike_space.specs.LegWalks.{leg_rank}
use Rattle.bike_space.specs.Tasks.{Task, rules_of, walk_by}
use Rattle.bike_space.proofs.LawLemmas.{is-dearest, keeps-laws}
use Rattle.bike_space.proofs.LeastLemmas.{least-run}
use Rattle.bike_space.proofs.MostLemmas.{run-most}

-- a least run of no more choices than a limit of labels and one more costs below 2^120
pub run-small :
    {S : Type 0} (rules : Rules S) → IsSpace rules → (dearest : ℕ) → IsDearest rules dearest → dearest < 2 ^ 88 →
    (limit : ℕ) → limit < 2 ^ 32 → (run : Run) → Answers rules limit (Found run) → run.cost < 2 ^ 120
run-small rules laws dearest is_dearest small limit few run is =
    let most : ℕ = 2 ^ 32 in
    let within : length run.choices ≤ most = omega (arith, is.1, few) in
    omega (arith, run-most rules laws dearest most is_dearest is.0.reaches.run within, small)

-- a found run is a walk of least rank
pub run-found :
    (task : Task) → IsTask task → task.leg.start ≢ task.leg.target → (limit : ℕ) → limit < 2 ^ 32 → (run : Run) (links : List ℕ) →
    Answers (rules_of task) limit (Found run) → links ≡ walk_by task.leg run.choices →
    IsFound task.leg task.used (record { links = links; rank = run.cost })
run-found task lawful differ limit few run links is same =
    let found = least-run task run.choices run.cost differ is.0 in
    record {
      least = subst (IsLeastRanked task.leg task.used) (sym same) found.0;
      ranks = subst (λ w. leg_rank task.leg task.used w ≡ run.cost) (sym same) found.1;
      small = run-small (rules_of task) (keeps-laws task lawful) (2 ^ 81 - 1) (is-dearest task lawful) (omega arith) limit few run is;
    }
