-- A request that is made ready, by what the calls below say.
use Rattle.std.proofs.Common.{◌≡◌, ◌⊎◌, inl, inr, ℕ, zero, suc, ◌≤◌, Bool, false, List, [], ◌∷◌, map, length, get_or, Result, Ok, Err, MatchResult, refl, ap, ◌∙◌, subst, arith}
use Rattle.std.proofs.lemmas.Bool.Decides.{nat_tests}
use Rattle.cost_model.specs.OpenLinks.{is_cut, open_by}
use Rattle.cost_model.specs.Rides.{Setting}
use Rattle.geo_int.specs.Place.{Place}
use Rattle.nogo_areas.specs.Cuts.{cut_of, cuts_link}
use Rattle.nogo_areas.specs.declared.circle.Circle.{Circle}
use Rattle.overpass_graph.specs.Maps.{MapValue}
use Rattle.overpass_graph.specs.declared.link.Link.{Link}
use Rattle.ride_certificates.specs.Bases.{IsBasisFor, IsBasisOf}
use Rattle.ride_certificates.specs.declared.basis.Basis.{Basis}
use Rattle.route_engine.proofs.RouteLemmas.{ready-setting}
use Rattle.route_engine.proofs.SettingLemmas.{cut-seen, nodes-in}
use Rattle.route_engine.specs.Jobs.{setting_of}
use Rattle.route_engine.specs.Refusals.{RefusesEarly, profile, waypoint}
use Rattle.route_engine.specs.Settings.{Question, cut_links, open_map_of}
use Rattle.route_engine.specs.Waypoints.{AreNodes, OpenMap, RefusesWaypoint}
use Rattle.route_http.specs.Seen.{circles_seen}
use Rattle.route_ready.specs.Readiness.{IsReadyBy, ready_of}
use Rattle.route_ready.specs.Worlds.{WorldValue}
use Rattle.route_ready.specs.declared.error.RouteError.{RouteError}
use Rattle.route_ready.specs.declared.error.RouteError.TheVariants.{NoMemory}
use Rattle.route_ready.specs.declared.ready.Ready.{Ready}
use Rattle.way_class.specs.Links.{links_of}
use Rattle.ride_certificates.proofs.LegLemmas.{TellSame, open-same}

-- ---- The links that are cut

-- without circles no link is cut
none-cut : (roads : MapValue) (links : List Link) (place : ℕ) → get_or (map (cuts_link roads []) links) place false ≡ false
unfolding cuts_link
none-cut roads [] place = refl
none-cut roads (link ∷ links) zero = refl
none-cut roads (link ∷ links) (suc place) = none-cut roads links place

-- the marks of all links tell what the setting of the request does
pub marks-seen : (roads : MapValue) (circles : List Circle) → TellSame (cut_of roads circles) (cut_links roads (circles_seen circles))
unfolding cut_of
marks-seen roads [] link = none-cut roads roads.links link
marks-seen roads (circle ∷ circles) link =
    ap (λ (marks : List Bool). is_cut marks link) (cut-seen roads (circle ∷ circles) (grind (arith, nat_tests)))

-- ---- Over a setting

-- what waypoints are moved on by the facts of a profile and by marks
abbrev pub land_by : WorldValue → Ready → List Bool → OpenMap
land_by world ready marks = record { map = world.map; is_open = open_by (links_of ready.bound.value).facts marks }

module _ (world : WorldValue) (ready : Ready) (marks : List Bool) (circles : List Circle)
    (are : marks ≡ cut_of world.map circles) where
  -- the setting of the request
  abbrev over : Setting
  over = setting_of world ready (circles_seen circles)

  -- the marks tell what it does
  marks-same : TellSame marks over.cut
  marks-same link = ap (λ (m : List Bool). is_cut m link) are ∙ marks-seen world.map circles link

  -- so waypoints are moved on the same links
  land-same : land_by world ready marks ≡ open_map_of over
  land-same =
      let land : (ℕ → Bool) → OpenMap = λ o. record { map = world.map; is_open = o } in
      ap land (open-same (links_of ready.bound.value).facts marks over.cut marks-same)

  -- the first that has no node is refused
  pub refusal-over : (waypoints : List Place) (e : RouteError) →
      (e ≡ NoMemory) ⊎ RefusesWaypoint (land_by world ready marks) waypoints e →
      (e ≡ NoMemory) ⊎ RefusesWaypoint (open_map_of over) waypoints e
  refusal-over waypoints e (inl no_memory) = inl no_memory
  refusal-over waypoints e (inr refuses) =
      inr (subst (λ (land : OpenMap). RefusesWaypoint land waypoints e) land-same refuses)

-- a request that is made ready is so for its setting
pub basis-over :
    (world : WorldValue) (basis : Basis) (circles : List Circle) (waypoints : List Place) →
    (links_of basis.ready.bound.value).count ≡ length world.map.links → 2 ≤ length waypoints → length waypoints ≤ 100 →
    basis.cut.items ≡ cut_of world.map circles →
    AreNodes (land_by world basis.ready basis.cut.items) waypoints basis.nodes.items →
    IsBasisFor world (setting_of world basis.ready (circles_seen circles)) waypoints basis
basis-over world basis circles waypoints counted some few are nodes = record {
  on = record {
    counted = counted;
    some = omega (arith, nodes.count, some);
    few = omega (arith, nodes.count, few);
    nodes_in = nodes-in (land_by world basis.ready basis.cut.items) world.map waypoints basis.nodes.items refl nodes;
  };
  terrain = refl;
  turns = refl;
  marks = marks-same world basis.ready basis.cut.items circles are;
  nodes = subst (λ (land : OpenMap). AreNodes land waypoints basis.nodes.items)
      (land-same world basis.ready basis.cut.items circles are) nodes;
}

-- ---- For a question

module _ (question : Question) (world : WorldValue) (ready : Ready) (same : world.map ≡ question.binding.map)
    (is : IsReadyBy question.binding (ready_of question.binding) ready) where
  -- a request that is made ready by a profile is so for the question
  pub ready-basis : (r : Result Basis RouteError) →
      MatchResult r (IsBasisFor world (setting_of world ready question.asked.circles) question.asked.waypoints)
      (λ e. (e ≡ NoMemory) ⊎ RefusesWaypoint (open_map_of (setting_of world ready question.asked.circles)) question.asked.waypoints e) →
      MatchResult r (IsBasisOf world question) (RefusesEarly question)
  ready-basis (Ok basis) made = record {
    setting = setting_of world ready question.asked.circles;
    over = ready-setting question world ready same is;
    is = made;
  }
  ready-basis (Err e) (inl no_memory) = inl no_memory
  ready-basis (Err e) (inr refuses) = inr (waypoint (ready-setting question world ready same is) refuses)

-- a profile that is refused is why the question has none
pub profile-refusal : (question : Question) (e : RouteError) → (e ≡ NoMemory) ⊎ (ready_of question.binding ≡ Err e) →
    RefusesEarly question e
profile-refusal question e (inl no_memory) = inl no_memory
profile-refusal question e (inr refusal) = inr (profile refusal)
