-- The search on a leg by the bound of a guide is lawful, and its space keeps the laws of a space.
use Rattle.std.proofs.Common.{◌≡◌, ◌≢◌, ℕ, ◌<◌, ◌^◌, ◌&&◌, Bool, true, false, not, IsTrue, None, Option, Some, refl, ap, arith}
use Rattle.bike_space.proofs.CallerLemmas.{keeps-laws, take-follows}
use Rattle.bike_space.specs.Kept.{task_of}
use Rattle.bike_space.specs.Lawful.{IsBound, IsTask, MayGoOn}
use Rattle.bike_space.specs.Tasks.{Task, rules_of}
use Rattle.bike_space.specs.declared.rested.Rested.{Rested}
use Rattle.cost_model.specs.OpenLinks.{is_passable}
use Rattle.cost_model.specs.Rides.{Terrain}
use Rattle.guided_space.specs.Guided.{guided_task}
use Rattle.overpass_graph.specs.Maps.{roads_of}
use Rattle.ride_bounds.proofs.CallerLemmas.{bound-paid}
use Rattle.ride_bounds.specs.Bounds.{IsLinkBound}
use Rattle.ride_bounds.specs.Guides.{low_by}
use Rattle.ride_bounds.specs.Turns.{LeadsOn}
use Rattle.ride_bounds.specs.declared.guide.Guide.{Guide}
use Rattle.space_search.specs.Laws.{IsSpace}

-- a lower bound by link is one for a search on a leg, each of whose open links its facts let a rider take
module _ (task : Task) (lawful : IsTask task) (low : ℕ → Option ℕ)
    (bound : IsLinkBound task.leg.ride.roads task.leg.ride.facts task.leg.target low)
    (passable : (link : ℕ) → IsTrue (task.leg.ride.is_open link) → is_passable (task.leg.ride.facts link) ≡ true) where
  -- where a walk may go on, the one link leads on to the other
  leads : (last link : ℕ) → MayGoOn task.leg last link →
      LeadsOn task.leg.ride.roads last link × (is_passable (task.leg.ride.facts link) ≡ true)
  leads last link on =
      let follows = take-follows task.leg last link on.taken on.leaves in
      (record { joins = follows.1.joins; ahead = follows.1.goes_ahead }, passable link follows.0)

  pub link-task : IsBound (record task { low = low; radius = Some 0 })
  link-task = record {
    small = λ link rest within is. omega (arith, bound.small link rest within is);
    target = λ link within at. bound.arrived link within at;
    falls = λ last link before after pair on held first second.
        let leads = leads last link (record { last_in = on.last_in; link_in = on.link_in; leaves = on.leaves; taken = on.taken }) in
        bound-paid task.leg.ride.roads task.leg.ride.facts task.leg.target low bound task.leg.ride.prices (task.used link) pair last link
        before after lawful.prices (lawful.facts link on.link_in) held on.last_in on.link_in leads.0 leads.1 first second;
    stays = λ last link on none.
        let leads = leads last link (record { last_in = on.last_in; link_in = on.link_in; leaves = on.leaves; taken = on.taken }) in
        bound.none last link on.last_in on.link_in leads.0 leads.1 none;
  }

-- of two that hold the first holds
both-first : (a b : Bool) → (a && b) ≡ true → a ≡ true
both-first true b is = refl
both-first false b is = is

-- what a guide tells of a target is a lower bound on a terrain
abbrev pub told-bound : Terrain → Guide → ℕ → Type 0
told-bound terrain guide target =
    IsLinkBound (roads_of terrain.map) terrain.links.facts target (low_by terrain guide target)

-- the search on a leg by the bound of a guide is lawful
pub guided-lawful :
    (terrain : Terrain) (kept : Rested) (guide : Guide) → IsTask (task_of terrain kept) →
    told-bound terrain guide kept.target →
    IsTask (guided_task terrain kept guide)
guided-lawful terrain kept guide lawful bound = record {
  roads = lawful.roads;
  facts = lawful.facts;
  prices = lawful.prices;
  start_in = lawful.start_in;
  target_in = lawful.target_in;
  bound = link-task (task_of terrain kept) lawful (low_by terrain guide kept.target) bound (λ link opens. both-first _ _ opens);
  whole = λ all. absurd (cc);
}
