use Rattle.std.proofs.Common.{length, ap, subst, sym, ◌∙◌}
use Rattle.bike_space.specs.Kept.{task_of}
use Rattle.bike_space.specs.Openings.{IsOpened, OpensOn}
use Rattle.item_list.specs.Turns.{Says}
use Rattle.leg_search.specs.Quests.{GoesOnAs, quest_at, searched}
use Rattle.leg_search.specs.Steps.{IsLimited}
use Rattle.leg_search.specs.declared.search.Stage.TheVariants.{Opening, Settling}
use Rattle.leg_search.proofs.TurnLemmas.{opens-as, settles-as}
use Rattle.leg_search.proofs.step.open_on.Goals.{in-More, in-Done}
use Rattle.leg_search.proofs.step.open_on.Goals as goal

pub returns-clause-answers : goal.returns-clause-answers
returns-clause-answers g c =
    let terrain = g.G.TerrainOf.terrain c.args.terrain in
    let opening = c.args.opening in
    let aim = c.args.aim in
    let quest = quest_at terrain aim (Opening opening) in
    let steps = c.in_ok-opening.ensures.steps in
    elim c.match-branch-2.branch [
      | in-More w ↦
          let opens = subst (Says (OpensOn terrain opening) (IsOpened terrain opening)) w.in-More.is steps in
          subst (λ s. GoesOnAs terrain quest (record { stage = s; aim = c.counting-aim.result })) (sym w.stage-is)
          (subst (λ a. GoesOnAs terrain quest (record { stage = Opening w.in-More.opening; aim = a })) (sym c.counting-aim.ensures.value)
          (opens-as terrain opening aim c.requires.on w.in-More.opening opens))
      | in-Done w ↦
          let opened = subst (Says (OpensOn terrain opening) (IsOpened terrain opening)) w.in-Done.is steps in
          let kept = w.in-Done.kept in
          let search = w.new.result in
          let made = w.new.ensures in
          subst (λ s. GoesOnAs terrain quest (record { stage = s; aim = c.counting-aim.result })) (sym w.stage-is)
          (subst (λ a. GoesOnAs terrain quest (record { stage = Settling kept search; aim = a })) (sym c.counting-aim.ensures.value)
          (settles-as terrain opening aim c.requires.on kept opened search (made.of (searched aim.runs (task_of terrain kept)))
          (ap length made.none) (subst (IsLimited aim) (sym made.limit) c.limit_of-limit.ensures.limited)))
    ]
