use Rattle.std.proofs.Common.{◌∙◌, ap, length, subst, sym}
use Rattle.bike_space.specs.declared.rested.Rested.{Rested}
use Rattle.guided_space.specs.Guided.{IsGuidedTo, guided_task}
use Rattle.leg_search.specs.Anew.{BeginsAnew}
use Rattle.leg_search.specs.Quests.{searched}
use Rattle.leg_search.specs.declared.search.Guiding.{Guiding}
use Rattle.leg_search.specs.declared.search.Stage.TheVariants.{Guided}
use Rattle.leg_search.proofs.AnewLemmas.{guided-begins}
use Rattle.leg_search.proofs.TurnLemmas.{woken-by}
use Rattle.leg_search.proofs.anew.begin_guided.Goals as goal

pub returns : goal.returns
returns g c =
    let terrain = g.G.TerrainOf.terrain c.args.terrain in
    let kept = c.args.kept in
    let aim = c.args.aim in
    let guide = c.args.guide in
    let seen = c.new.result.space.now in
    let bound = c.in_ok-bound.bound in
    let made = c.new-search.ensures in
    let rests = c.rest-kept.ensures.kept ∙ c.wake-space.ensures.kept in
    let bounds = woken-by terrain (g.G.TerrainOf.terrain seen.terrain) kept seen.kept guide.value c.new.result.guide.now
    (ap (λ s. g.G.TerrainOf.terrain s.terrain) c.new.ensures.space ∙ ap g.G.TerrainOf.terrain c.wake-space.ensures.terrain)
    (ap (λ s. s.kept) c.new.ensures.space ∙ c.wake-space.ensures.kept) (c.new.ensures.guide ∙ c.deref.ensures)
    (λ t k u. IsGuidedTo t u k.target bound) c.in_ok-bound.ensures.are in
    let it : Guiding = record { kept = kept; search = c.new-search.result; guide = guide; bound = bound } in
    record {
      begins =
          subst (λ (k : Rested). BeginsAnew terrain kept aim 3
          (record { stage = Guided (record { kept = k; search = c.new-search.result; guide = guide; bound = bound }); aim = aim })) (sym rests)
          (guided-begins terrain aim it c.requires.may c.requires.later (made.of (searched aim.runs (guided_task terrain kept guide.value)))
          bounds made.limit (ap length made.none));
    }
