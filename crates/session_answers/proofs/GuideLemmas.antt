-- Guides of profiles that are kept: what they are made for, and what is kept with them.
use Rattle.std.proofs.Common.{◌≡◌, List, IfSome, None, sym, subst}
use Rattle.cost_model.specs.Rides.{Terrain}
use Rattle.map_guides.specs.Guides.{IsGuideMaking, IsGuideOf}
use Rattle.map_guides.specs.Hierarchies.{IsHierarchyMaking}
use Rattle.map_guides.specs.declared.guide_making.GuideMaking.{GuideMaking}
use Rattle.overpass_graph.specs.Maps.{MapValue, roads_of}
use Rattle.overpass_graph.specs.Roads.{Roads}
use Rattle.profile_text.specs.Tree.{Sections}
use Rattle.ride_bounds.specs.Guides.{IsGuide, IsGuided}
use Rattle.ride_bounds.specs.declared.guide.Guide.{Guide}
use Rattle.route_ready.proofs.CallerLemmas.{ready-guided}
use Rattle.route_ready.specs.Fits.{HasSameTerms, ready_terrain}
use Rattle.route_ready.specs.Readiness.{ready_of}
use Rattle.route_ready.specs.Worlds.{WorldValue, binding_in}
use Rattle.route_ready.specs.declared.ready.Ready.{Ready}
use Rattle.session_answers.specs.Guiding.{IsGuidedBy, IsTargetFor}
use Rattle.session_answers.specs.Kept.{AreGuides, IsMadeFrom, IsTarget}
use Rattle.session_answers.specs.declared.guides.Guides.{Guides}
use Rattle.session_answers.specs.declared.guides.Target.{Target}
use Rattle.session_answers.specs.declared.key.Key.{Key}
use Rattle.way_class.specs.Links.{links_of}
use Rattle.way_class.specs.declared.bound.Bound.{Bound}

-- guides of which nothing is made are those of any world
pub none-made : (world : WorldValue) (stored : List Sections) (guides : Guides) → guides.target ≡ None →
    ((roads : Roads) → IsHierarchyMaking roads guides.hierarchy) → AreGuides world stored guides
none-made world stored guides none hierarchy = record {
  hierarchy = hierarchy (roads_of world.map);
  target = subst (λ target. IfSome target (IsTarget world stored)) (sym none) tt;
}

-- a profile with a guide by its own facts was made from the same stored one
pub guided-made : (world : WorldValue) (stored : List Sections) (key : Key) (ready other : Ready) (guide : Guide) →
    IsMadeFrom world stored key ready → HasSameTerms ready other → IsGuidedBy guide other →
    IsGuideOf world.map ready.bound.value guide → IsMadeFrom world stored key other
guided-made world stored key ready other guide made same has is =
    let binding = binding_in world made.sections key.overrides in
    let over : Bound → Terrain = λ (b : Bound). record { map = world.map; links = links_of b; prices = other.rates } in
    let own : IsGuide (ready_terrain world.map other) guide =
    subst (λ (b : Bound). IsGuide (over b) guide) (sym same.bound) (is other.rates) in
    let shared : IsGuide (ready_terrain world.map other) has.shared.value =
    subst (IsGuide (ready_terrain world.map other)) (sym has.is) own in
    record {
      sections = made.sections;
      there = made.there;
      ready_is = ready-guided binding (ready_of binding) ready other made.ready_is same
          (subst (IsGuided (ready_terrain world.map other)) (sym has.has) shared);
    }

-- a guide that begins is that of the profile which was made under its key
pub target-begun : (world : WorldValue) (stored : List Sections) (key : Key) (ready : Ready) (target : Target) →
    IsMadeFrom world stored key ready → IsTargetFor world.map key ready target → IsTarget world stored target
target-begun world stored key ready target made is = record {
  made =
      subst (λ (k : Key). IsMadeFrom world stored k target.ready.value) (sym is.key_is)
      (subst (IsMadeFrom world stored key) (sym is.ready_is) made);
  making = subst (λ (r : Ready). IsGuideMaking world.map r.bound.value target.making) (sym is.ready_is) is.making;
}

-- ---- A spell of a guide

module _ (world : WorldValue) (stored : List Sections) (target : Target) (is : IsTarget world stored target) (map : MapValue)
    (same : map ≡ world.map) where
  -- its guide is that of the map by the facts of its profile
  pub target-over : IsGuideMaking map target.ready.value.bound.value target.making
  target-over =
      subst (λ (m : MapValue). IsGuideMaking m target.ready.value.bound.value target.making) (sym same) is.making

  -- and stays so where it goes on
  pub target-on : (next : GuideMaking) → IsGuideMaking map target.ready.value.bound.value next →
      IsTarget world stored (record { key = target.key; ready = target.ready; making = next })
  target-on next on = record {
    made = is.made;
    making = subst (λ (m : MapValue). IsGuideMaking m target.ready.value.bound.value next) same on;
  }

  -- at its end the profile with it was made under the same key
  pub target-end : (guide : Guide) (other : Ready) → IsGuideOf map target.ready.value.bound.value guide →
      HasSameTerms target.ready.value other → IsGuidedBy guide other → IsMadeFrom world stored target.key other
  target-end guide other end terms has =
      guided-made world stored target.key target.ready.value other guide is.made terms has
      (subst (λ (m : MapValue). IsGuideOf m target.ready.value.bound.value guide) same end)
