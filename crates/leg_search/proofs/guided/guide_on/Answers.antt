use Rattle.std.proofs.Common.{◌∙◌, ◌+◌, ap, length, refl, subst, sym}
use Rattle.bike_space.specs.declared.rested.Rested.{Rested}
use Rattle.guided_space.specs.Guided.{IsGuidedTo, guided_task}
use Rattle.least_sums.specs.Findings.{most_found}
use Rattle.space_search.specs.Searches.{IsSearchOf}
use Rattle.space_search.specs.View.{view}
use Rattle.leg_search.specs.Anew.{MayBegin}
use Rattle.leg_search.specs.Quests.{AnswersLegTurn, quest_at, searched}
use Rattle.leg_search.specs.Steps.{AnswersStep, CountsLegStep, told_of}
use Rattle.leg_search.specs.declared.search.Aim.{Aim}
use Rattle.leg_search.specs.declared.search.Guiding.{Guiding}
use Rattle.leg_search.specs.declared.search.Stage.TheVariants.{Guided}
use Rattle.leg_search.proofs.AnewLemmas.{guided-answers, guided-may, guided-steps}
use Rattle.leg_search.proofs.TurnLemmas.{woken-by}
use Rattle.leg_search.proofs.guided.guide_on.Goals as goal

pub begin_whole-requires-clause-may : goal.begin_whole-requires-clause-may
begin_whole-requires-clause-may g c =
    let terrain = g.G.TerrainOf.terrain c.args.terrain in
    let was = c.args.it in
    let aim = c.args.aim in
    let seen = c.new-guided.result.space.now in
    let step = c.in_ok-step.ensures in
    let rests = c.rest-kept.ensures.kept ∙ c.wake-space.ensures.kept in
    let over = woken-by terrain (g.G.TerrainOf.terrain seen.terrain) was.kept seen.kept was.guide.value c.new-guided.result.guide.now
    (ap (λ s. g.G.TerrainOf.terrain s.terrain) c.new-guided.ensures.space ∙ ap g.G.TerrainOf.terrain c.wake-space.ensures.terrain)
    (ap (λ s. s.kept) c.new-guided.ensures.space ∙ c.wake-space.ensures.kept) (c.new-guided.ensures.guide ∙ c.deref.ensures) in
    let of = over (λ t k u. IsSearchOf (searched aim.runs (guided_task t k u)) c.step_on.new.search) step.of in
    let it : Guiding = record { kept = c.rest-kept.result; search = c.step_on.new.search; guide = was.guide; bound = c.step_on.new.bounds } in
    let more = most_found (length terrain.map.links) in
    subst (λ (k : Rested). MayBegin terrain k c.counting-aim.result (more + c.counting-aim.result.limit)) (sym rests)
    (subst (λ (a : Aim). MayBegin terrain was.kept a (more + a.limit)) (sym c.counting-aim.ensures.value)
    (guided-may terrain was it aim c.args.quota c.in_ok-step.step c.requires.on rests refl of step.limit step.counts))

pub returns-clause-answers : goal.returns-clause-answers
returns-clause-answers g c =
    let terrain = g.G.TerrainOf.terrain c.args.terrain in
    let was = c.args.it in
    let aim = c.args.aim in
    let seen = c.new-guided.result.space.now in
    let step = c.in_ok-step.ensures in
    let rests = c.rest-kept.ensures.kept ∙ c.wake-space.ensures.kept in
    let over = woken-by terrain (g.G.TerrainOf.terrain seen.terrain) was.kept seen.kept was.guide.value c.new-guided.result.guide.now
    (ap (λ s. g.G.TerrainOf.terrain s.terrain) c.new-guided.ensures.space ∙ ap g.G.TerrainOf.terrain c.wake-space.ensures.terrain)
    (ap (λ s. s.kept) c.new-guided.ensures.space ∙ c.wake-space.ensures.kept) (c.new-guided.ensures.guide ∙ c.deref.ensures) in
    let of = over (λ t k u. IsSearchOf (searched aim.runs (guided_task t k u)) c.step_on.new.search) step.of in
    let bounds = over (λ t k u. IsGuidedTo t u k.target c.step_on.new.bounds) step.bounds in
    let answers = over (λ t k u. AnswersStep (guided_task t k u) (view was.search).limit aim.runs c.in_ok-step.step) step.answers in
    let it : Guiding = record { kept = c.rest-kept.result; search = c.step_on.new.search; guide = was.guide; bound = c.step_on.new.bounds } in
    let quest = quest_at terrain aim (Guided was) in
    subst (AnswersLegTurn terrain quest) (sym c.told.ensures.value)
    (subst (λ (a : Aim). AnswersLegTurn terrain quest (told_of (record { stage = Guided it; aim = a }) c.in_ok-step.step))
    (sym c.counting-aim.ensures.value)
    (guided-answers terrain was it aim c.args.quota c.in_ok-step.step c.requires.on rests refl of step.limit step.counts bounds
    (sym c.is_spent.ensures.value ∙ c.if-is_spent.false) answers))

pub returns-clause-counts : goal.returns-clause-counts
returns-clause-counts g c =
    let terrain = g.G.TerrainOf.terrain c.args.terrain in
    let was = c.args.it in
    let aim = c.args.aim in
    let seen = c.new-guided.result.space.now in
    let step = c.in_ok-step.ensures in
    let rests = c.rest-kept.ensures.kept ∙ c.wake-space.ensures.kept in
    let over = woken-by terrain (g.G.TerrainOf.terrain seen.terrain) was.kept seen.kept was.guide.value c.new-guided.result.guide.now
    (ap (λ s. g.G.TerrainOf.terrain s.terrain) c.new-guided.ensures.space ∙ ap g.G.TerrainOf.terrain c.wake-space.ensures.terrain)
    (ap (λ s. s.kept) c.new-guided.ensures.space ∙ c.wake-space.ensures.kept) (c.new-guided.ensures.guide ∙ c.deref.ensures) in
    let of = over (λ t k u. IsSearchOf (searched aim.runs (guided_task t k u)) c.step_on.new.search) step.of in
    let it : Guiding = record { kept = c.rest-kept.result; search = c.step_on.new.search; guide = was.guide; bound = c.step_on.new.bounds } in
    let counts = CountsLegStep (length terrain.map.links) c.args.quota (record { stage = Guided was; aim = aim }) in
    subst counts (sym c.told.ensures.value)
    (subst (λ (a : Aim). counts (told_of (record { stage = Guided it; aim = a }) c.in_ok-step.step)) (sym c.counting-aim.ensures.value)
    (guided-steps terrain was it aim c.args.quota c.in_ok-step.step c.requires.on rests refl of step.limit step.counts c.requires.some))
