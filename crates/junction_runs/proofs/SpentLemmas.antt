-- The evidence of a spent limit of a search over the junction runs of a leg, from what it shows to the walks of the leg.
use Rattle.std.proofs.Common.{◌≡◌, ◌≢◌, None, ℕ, ◌<◌, List, length, map, sym, subst, arith}
use Rattle.std.proofs.lemmas.List.{length-map}
use Rattle.item_list.proofs.ListLemmas.{slice_get-there}
use Rattle.cost_model.specs.declared.parts.Carry.{Carry}
use Rattle.space_search.specs.Turns.{IsSpent}
use Rattle.space_search.specs.View.{Reached}
use Rattle.bike_space.specs.Spent.{IsSpentBounded, nth_walk}
use Rattle.bike_space.specs.Tasks.{Task, rules_of, walk_by}
use Rattle.bike_space.specs.Lawful.{IsTask}
use Rattle.bike_space.proofs.CallerLemmas.{IsWritten, nth-at, spent-written}
use Rattle.junction_runs.specs.LegRuns.{IsListOfRuns}
use Rattle.junction_runs.specs.RunRules.{run_rules}
use Rattle.junction_runs.specs.Written.{written_of}
use Rattle.junction_runs.proofs.LegLemmas.{walk-runs}
use Rattle.junction_runs.proofs.WrittenLemmas.{loses-nothing, run-whole, whole-run}

-- the walk of a label that a search over junction runs shows
abbrev pub walk_of : Task → Reached Carry → List ℕ
walk_of task label = walk_by task.leg (written_of (rules_of task) label.choices)

-- runs over junction runs, written down, are runs of the space of the leg, and reach all that is reached there
runs-written : (task : Task) →
    IsWritten task (run_rules (rules_of task)).start (run_rules (rules_of task)).step (written_of (rules_of task))
runs-written task = record {
  runs = λ choices end cost run. whole-run (rules_of task) (run-whole (rules_of task) run);
  reached = λ choices cost reaches.
      let short = (loses-nothing (rules_of task)).whole choices cost reaches in
      (short.short, short.reaches);
}

module _ (task : Task) (lawful : IsTask task) (limit : ℕ) (shown : List (Reached Carry))
    (spent : IsSpent (run_rules (rules_of task)) limit shown) (differ : task.leg.start ≢ task.leg.target) where
  -- the walks that are shown
  abbrev pub walks : List (List ℕ)
  walks = map (walk_of task) shown

  -- each is a list of whole junction runs
  pub shown-runs : (k : ℕ) → k < length walks → IsListOfRuns task.leg (nth_walk walks k)
  shown-runs k below =
      let t = slice_get-there shown k (omega (arith, length-map shown (walk_of task))) in
      let p = spent.ordered.each k t.0 t.1 in
      subst (IsListOfRuns task.leg) (sym (nth-at (written_of (rules_of task)) task shown k t.0 t.1))
      (walk-runs task (run-whole (rules_of task) p.run.run))

  -- a spent limit has its evidence, with the bound where that is found for all nodes
  pub spent-bounded : task.radius ≡ None → IsSpentBounded task.leg task.used limit walks
  spent-bounded all =
      spent-written task lawful (run_rules (rules_of task)).start (run_rules (rules_of task)).step (written_of (rules_of task))
      (runs-written task) limit shown spent differ all
