-- What the end of a search on a leg says of its quest, over its links and from junction to junction.
use Rattle.std.proofs.Common.{◌≡◌, ℕ, Bool, true, false, IsTrue, ap, sym}
use Rattle.bike_space.specs.Answers.{AnswersLeg}
use Rattle.bike_space.specs.Tasks.{Task, rules_of}
use Rattle.bike_space.specs.declared.finding.Walk.{Walk}
use Rattle.junction_runs.specs.RunAnswers.{AnswersByRuns}
use Rattle.space_search.specs.declared.outcome.Outcome.{Outcome}
use Rattle.space_search.specs.declared.outcome.Outcome.TheVariants.{Found, NoWay, Budget}
use Rattle.cost_model.specs.declared.parts.Carry.{Carry}
use Rattle.junction_runs.specs.RunRules.{run_rules}
use Rattle.space_search.specs.Rules.{Rules}
use Rattle.leg_search.specs.Quests.{searched}
use Rattle.leg_search.specs.Steps.{AnswersEnd}

-- junction runs are not asked for
not-asked : {A : Type 0} → IsTrue false → A
not-asked h = absurd (cc)

module _ (task : Task) (limit : ℕ) where
  -- over the links of the leg
  pub by-links : (outcome : Outcome Walk) → AnswersLeg task.leg task.used task.radius limit outcome →
      AnswersEnd task limit false outcome
  by-links (Found walk) is = record { found = is; runs = λ h. not-asked h }
  by-links NoWay is = is
  by-links Budget is = λ all. let shown = is all in (shown.0, record { spent = shown.1; runs = λ h. not-asked h })

  -- from junction to junction
  pub by-runs : (outcome : Outcome Walk) → AnswersByRuns task.leg task.used task.radius limit outcome →
      AnswersEnd task limit true outcome
  by-runs (Found walk) is = record { found = is.0; runs = λ h. is.1 }
  by-runs NoWay is = is
  by-runs Budget is = λ all. let shown = is all in (shown.0, record { spent = shown.1.spent; runs = λ h. shown.1.runs })

-- ---- Which space is searched

-- junction runs over a space of the leg
pub runs-is : (rules : Rules Carry) (task : Task) → rules ≡ rules_of task → (runs : Bool) → runs ≡ true →
    searched runs task ≡ run_rules rules
runs-is rules task same true is = ap run_rules (sym same)
runs-is rules task same false is = absurd (cc)

-- or that space
pub links-is : (rules : Rules Carry) (task : Task) → rules ≡ rules_of task → (runs : Bool) → runs ≡ false →
    searched runs task ≡ rules
links-is rules task same true is = absurd (cc)
links-is rules task same false is = sym same
