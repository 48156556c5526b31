-- A turn as a whole: it begins, goes on, and leaves a reach on what was asked.
use Rattle.std.proofs.Common.{◌≡◌, ℕ, ◌≤◌, Bool, true, false, length, refl, sym, ap, ◌∙◌, subst, arith}
use Rattle.space_search.specs.Searches.{IsSearchOf}
use Rattle.space_search.specs.View.{view}
use Rattle.bike_space.specs.Lawful.{IsTask}
use Rattle.bike_space.specs.Tasks.{Task, rules_of}
use Rattle.cost_table.specs.Costs.{AreCosts, IsSpentOn, Quest}
use Rattle.cost_table.specs.Endless.{endless}
use Rattle.cost_table.specs.Found.{Begins, BeginsBy, PutsDown, cost_at}
use Rattle.cost_table.specs.Reaches.{AnswersReach, CountsReach, IsFoundAfter, IsFresh, IsReachOn, IsStage, IsUnderWay, StaysReach, StepsTo, TurnsReach, cost_in, quest_of, stage_after}
use Rattle.cost_table.specs.declared.found.Found.{Found}
use Rattle.cost_table.specs.declared.reach.Reach.{Reach}
use Rattle.cost_table.specs.declared.reach.Stage.{Stage}
use Rattle.cost_table.specs.declared.reach.Stage.TheVariants as stage
use Rattle.cost_table.specs.declared.turn.ReachTurn.{ReachTurn}
use Rattle.cost_table.specs.declared.turn.ReachTurn.TheVariants.{More, Done, Budget}
use Rattle.cost_table.specs.declared.want.Want.{Want}
use Rattle.cost_table.proofs.BeginLemmas.{begun-known}
use Rattle.cost_table.proofs.NoteLemmas.{IsKnown}

-- before its first label everything stays
pub stays-itself : (task : Task) (reach : Reach) → IsUnderWay task reach → StaysReach task reach reach
stays-itself task reach way = record {
  of = way.of;
  source = refl;
  want = refl;
  limit = refl;
  stage = refl;
  grows = omega arith;
  within = way.within;
}

-- what is asked by other parts
abbrev pub asked_by : Task → Want → ℕ → Quest
asked_by task want limit = record { ride = task.leg.ride; source = task.leg.start; want = want; limit = limit }

-- the same is asked where these parts stay
pub same-quest :
    (task : Task) (before after : Reach) → after.found.want ≡ before.found.want →
    after.limit ≡ before.limit → quest_of task after ≡ quest_of task before
same-quest task before after want limit =
    ap (λ (w : Want). asked_by task w after.limit) want
    ∙ ap (λ (n : ℕ). asked_by task before.found.want n) limit

-- the reach while a turn is made
abbrev pub stopped : Reach → Reach
stopped reach = record reach { stage = stage.Failed }

module _ (task : Task) (reach after : Reach) (from : reach.source ≡ task.leg.start)
    (stays : StaysReach task (stopped reach) after) where
  -- what a turn leaves that met want of memory
  pub turned-failed : TurnsReach task reach after
  turned-failed = record {
    on = record {
      of = stays.of;
      from = stays.source ∙ from;
      within = omega (arith, stays.within, stays.limit);
      stands = subst (λ (s : Stage). IsStage task after s) (sym stays.stage) tt;
    };
    same = λ other. same-quest other reach after stays.want stays.limit;
    grows = stays.grows;
    within = stays.within;
  }

  -- how far a reach is after what its parts came to
  after-stage :
      (quota : ℕ) (turn : ReachTurn) → StepsTo task (quest_of task reach) after turn →
      CountsReach quota reach.limit reach.settled after.settled turn →
      IsStage task (record after { stage = stage_after turn }) (stage_after turn)
  after-stage quota More steps counts = (steps.counted, steps.found)
  after-stage quota Done steps counts =
      subst (λ (q : Quest). AreCosts q (cost_in after)) (sym (same-quest task reach after stays.want stays.limit)) steps
  after-stage quota Budget steps counts = (
    counts.1 ∙ sym stays.limit,
    (
      steps.0,
      subst (λ (q : Quest). IsSpentOn q steps.0) (sym (same-quest task reach after stays.want stays.limit)) steps.1,
    ),
  )

  -- what a turn leaves
  pub turned :
      (quota : ℕ) (turn : ReachTurn) → StepsTo task (quest_of task reach) after turn →
      CountsReach quota reach.limit reach.settled after.settled turn →
      TurnsReach task reach (record after { stage = stage_after turn })
  turned quota turn steps counts = record {
    on = record {
      of = stays.of;
      from = stays.source ∙ from;
      within = omega (arith, stays.within, stays.limit);
      stands = after-stage quota turn steps counts;
    };
    same = λ other. same-quest other reach after stays.want stays.limit;
    grows = stays.grows;
    within = stays.within;
  }

-- what it answers
pub turned-answers :
    (task : Task) (quest : Quest) (after : Reach) (turn : ReachTurn) → StepsTo task quest after turn →
    AnswersReach quest (record after { stage = stage_after turn }) turn
turned-answers task quest after More steps = refl
turned-answers task quest after Done steps = (refl, steps)
turned-answers task quest after Budget steps = steps

-- ---- The first turn

module _ (task : Task) (lawful : IsTask task) (unused : (link : ℕ) → task.used link ≡ false) (reach : Reach)
    (on : IsReachOn task reach) (fresh : IsFresh reach) (found : Found) (want : found.want ≡ reach.found.want) where
  -- what is known as it begins
  pub begun-on :
      (told done : Bool) → told ≡ done → Begins reach.source reach.found found told →
      IsKnown task (quest_of task reach) found (view reach.search).settled done
  begun-on told done is begins =
      let stands = subst (IsStage task reach) fresh on.stands in
      let puts : PutsDown task.leg.start 0 (cost_at reach.found) (cost_at found) =
      subst (λ (s : ℕ). PutsDown s 0 (cost_at reach.found) (cost_at found)) on.from begins.puts in
      let by_want : BeginsBy reach.found.want task.leg.start found done =
      subst (λ (d : Bool). BeginsBy reach.found.want task.leg.start found d) is
      (subst (λ (s : ℕ). BeginsBy reach.found.want s found told) on.from begins.by_want) in
      begun-known task lawful unused reach.limit reach.found found stands.0 puts (view reach.search).settled
      stands.1 reach.found.want done by_want

  -- no label is counted
  begun-counted : reach.settled ≡ length (view reach.search).settled
  begun-counted =
      let stands = subst (IsStage task reach) fresh on.stands in
      stands.2 ∙ sym (ap length stands.1)

  -- where that is all, it is done
  pub begun-done :
      (told : Bool) → told ≡ true → Begins reach.source reach.found found told →
      TurnsReach task reach (record reach { found = found; stage = stage.Done })
  begun-done told is begins =
      let next : Reach = record reach { found = found; stage = stage.Done } in
      let same = same-quest task reach next want refl in
      record {
        on = record {
          of = on.of;
          from = on.from;
          within = on.within;
          stands = subst (λ (q : Quest). AreCosts q (cost_at found)) (sym same) (begun-on told true is begins);
        };
        same = λ other. same-quest other reach next want refl;
        grows = omega arith;
        within = on.within;
      }

  -- else it is under way
  pub begun-way :
      (told : Bool) → told ≡ false → Begins reach.source reach.found found told →
      IsUnderWay task (record reach { found = found; stage = stage.Failed })
  begun-way told is begins =
      let next : Reach = record reach { found = found; stage = stage.Failed } in
      record {
        of = on.of;
        from = on.from;
        counted = begun-counted;
        within = on.within;
        found = subst (λ (q : Quest). IsFoundAfter task q found (view reach.search).settled)
            (sym (same-quest task reach next want refl)) (begun-on told false is begins);
      }

-- where memory runs out as it begins, it stays a reach on what was asked
pub begun-failed :
    (task : Task) (reach : Reach) → IsReachOn task reach → (found : Found) → found.want ≡ reach.found.want →
    TurnsReach task reach (record reach { found = found; stage = stage.Failed })
begun-failed task reach on found want = record {
  on = record { of = on.of; from = on.from; within = on.within; stands = tt };
  same = λ other. same-quest other reach (record reach { found = found; stage = stage.Failed }) want refl;
  grows = omega arith;
  within = on.within;
}

-- what a turn leaves that goes on after what was begun
pub turned-through :
    (task : Task) (reach next after : Reach) → next.found.want ≡ reach.found.want → next.limit ≡ reach.limit →
    next.settled ≡ reach.settled → TurnsReach task next after → TurnsReach task reach after
turned-through task reach next after want limit settled turns =
    record {
      on = turns.on;
      same = λ other. turns.same other ∙ same-quest other reach next want limit;
      grows = omega (arith, turns.grows, settled);
      within = omega (arith, turns.within, limit);
    }
