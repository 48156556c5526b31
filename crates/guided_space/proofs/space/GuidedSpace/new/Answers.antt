use Rattle.std.proofs.Common.{sym, subst}
use Rattle.bike_space.proofs.CallerLemmas.{keeps-laws}
use Rattle.bike_space.specs.Lawful.{IsTask}
use Rattle.guided_space.specs.Guided.{guided_task}
use Rattle.ride_bounds.specs.Guides.{IsGuide}
use Rattle.guided_space.proofs.LawLemmas.{guided-lawful, told-bound}
use Rattle.guided_space.proofs.space.GuidedSpace.new.Goals as goal

pub is_lawful-requires : goal.is_lawful-requires
is_lawful-requires g c =
    record {
      fits = subst (λ t. IsGuide (g.G.TerrainOf.terrain t) c.args.guide.now) (sym c.terrain.ensures.value) c.requires.fits;
    }

pub invariant_of-result : goal.invariant_of-result
invariant_of-result g c =
    let space = c.args.space.now in
    let terrain = g.G.TerrainOf.terrain space.terrain in
    let guide = c.args.guide.now in
    let bound = subst (λ t. told-bound (g.G.TerrainOf.terrain t) guide space.kept.target) c.terrain.ensures.value
    (c.is_lawful.ensures.lawful space.kept.target) in
    let lawful : IsTask (guided_task terrain space.kept guide) = guided-lawful terrain space.kept guide space.wakes.lawful bound in
    record { lawful = lawful; keeps = keeps-laws (guided_task terrain space.kept guide) lawful }
