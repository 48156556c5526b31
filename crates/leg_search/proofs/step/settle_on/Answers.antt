use Rattle.std.proofs.Common.{◌∙◌, ◌+◌, length, ap, sym, subst}
use Rattle.bike_space.specs.Kept.{task_of}
use Rattle.bike_space.specs.declared.rested.Rested.{Rested}
use Rattle.least_sums.specs.Findings.{most_found}
use Rattle.space_search.specs.Searches.{IsSearchOf}
use Rattle.space_search.specs.View.{view}
use Rattle.leg_search.specs.Anew.{BeginsAnew, MayBegin}
use Rattle.leg_search.specs.Quests.{AnswersLegTurn, quest_at, searched}
use Rattle.leg_search.specs.Steps.{AnswersStep, CountsLegStep, is_spent, told_of}
use Rattle.leg_search.specs.declared.search.Aim.{Aim}
use Rattle.leg_search.specs.declared.search.Stage.TheVariants.{Settling}
use Rattle.leg_search.proofs.AnewLemmas.{anew-as, anew-may, anew-steps, else-anew, then-first, then-spent}
use Rattle.leg_search.proofs.TurnLemmas.{settled-answers, settled-steps, woken}
use Rattle.leg_search.proofs.step.settle_on.Goals as goal

pub begin_anew-requires : goal.begin_anew-requires
begin_anew-requires g c =
    let terrain = g.G.TerrainOf.terrain c.args.terrain in
    let space = c.wake-space.result in
    let step = c.in_ok-step.ensures in
    let aim = c.args.aim in
    let kept = c.args.kept in
    let over = woken terrain (g.G.TerrainOf.terrain space.terrain) kept space.kept
    (ap g.G.TerrainOf.terrain c.wake-space.ensures.terrain) c.wake-space.ensures.kept in
    let of = over (λ t k. IsSearchOf (searched aim.runs (task_of t k)) c.step_on.new.search) step.of in
    let rests = c.rest-kept.ensures.kept ∙ c.wake-space.ensures.kept in
    let first = then-first aim.first (is_spent c.in_ok-step.step.1) (sym c.begins_anew-anew.ensures.value ∙ c.if-anew.true) in
    let more = most_found (length terrain.map.links) in
    record {
      may =
          subst (λ (k : Rested). MayBegin terrain k c.counting-aim.result (c.counting-aim.result.limit + (more + c.counting-aim.result.limit)))
          (sym rests)
          (subst (λ (a : Aim). MayBegin terrain kept a (a.limit + (more + a.limit))) (sym c.counting-aim.ensures.value)
          (anew-may terrain kept c.args.search c.step_on.new.search aim c.args.quota c.in_ok-step.step c.requires.on of step.limit step.counts first));
    }

pub returns-then-anew : goal.returns-then-anew
returns-then-anew g c =
    let terrain = g.G.TerrainOf.terrain c.args.terrain in
    let space = c.wake-space.result in
    let step = c.in_ok-step.ensures in
    let aim = c.args.aim in
    let kept = c.args.kept in
    let over = woken terrain (g.G.TerrainOf.terrain space.terrain) kept space.kept
    (ap g.G.TerrainOf.terrain c.wake-space.ensures.terrain) c.wake-space.ensures.kept in
    let of = over (λ t k. IsSearchOf (searched aim.runs (task_of t k)) c.step_on.new.search) step.of in
    let rests = c.rest-kept.ensures.kept ∙ c.wake-space.ensures.kept in
    let anew = sym c.begins_anew-anew.ensures.value ∙ c.if-anew.true in
    let first = then-first aim.first (is_spent c.in_ok-step.step.1) anew in
    let spent = then-spent aim.first (is_spent c.in_ok-step.step.1) anew in
    let next = c.in_ok-next.next in
    let begins = subst (λ (a : Aim). BeginsAnew terrain kept a 3 next) c.counting-aim.ensures.value
    (subst (λ (k : Rested). BeginsAnew terrain k c.counting-aim.result 3 next) rests c.in_ok-next.ensures.begins) in
    record {
      answers = anew-as terrain kept c.args.search c.step_on.new.search aim c.args.quota c.in_ok-step.step c.requires.on of step.limit
          step.counts first next begins;
      counts = anew-steps terrain kept c.args.search c.step_on.new.search aim c.args.quota c.in_ok-step.step c.requires.on of step.limit
          step.counts first next begins spent;
    }

pub returns : goal.returns
returns g c =
    let terrain = g.G.TerrainOf.terrain c.args.terrain in
    let space = c.wake-space.result in
    let step = c.in_ok-step.ensures in
    let aim = c.args.aim in
    let kept = c.args.kept in
    let search = c.step_on.new.search in
    let over = woken terrain (g.G.TerrainOf.terrain space.terrain) kept space.kept
    (ap g.G.TerrainOf.terrain c.wake-space.ensures.terrain) c.wake-space.ensures.kept in
    let of = over (λ t k. IsSearchOf (searched aim.runs (task_of t k)) search) step.of in
    let answers = over (λ t k. AnswersStep (task_of t k) (view c.args.search).limit aim.runs c.in_ok-step.step) step.answers in
    let rests = c.rest-kept.ensures.kept ∙ c.wake-space.ensures.kept in
    let quest = quest_at terrain aim (Settling kept c.args.search) in
    let anew = sym c.begins_anew-anew.ensures.value ∙ c.if-anew.false in
    let counts = CountsLegStep (length terrain.map.links) c.args.quota (record { stage = Settling kept c.args.search; aim = aim }) in
    record {
      answers =
          subst (AnswersLegTurn terrain quest) (sym c.told.ensures.value)
          (subst (λ k. AnswersLegTurn terrain quest
          (told_of (record { stage = Settling k search; aim = c.counting-aim.result }) c.in_ok-step.step)) (sym rests)
          (subst (λ a. AnswersLegTurn terrain quest (told_of (record { stage = Settling kept search; aim = a }) c.in_ok-step.step))
          (sym c.counting-aim.ensures.value)
          (settled-answers terrain kept c.args.search search aim c.args.quota c.in_ok-step.step c.requires.on of step.limit step.counts
          (else-anew aim.first (is_spent c.in_ok-step.step.1) anew) answers)));
      counts =
          subst counts (sym c.told.ensures.value)
          (subst (λ k. counts (told_of (record { stage = Settling k search; aim = c.counting-aim.result }) c.in_ok-step.step)) (sym rests)
          (subst (λ a. counts (told_of (record { stage = Settling kept search; aim = a }) c.in_ok-step.step))
          (sym c.counting-aim.ensures.value)
          (settled-steps terrain kept c.args.search search aim c.args.quota c.in_ok-step.step c.requires.on of step.limit step.counts
          c.requires.some)));
    }
