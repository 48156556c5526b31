-- The nodes that lie within a cost are on the map and stand by ascending id, and their lists may be written.
use Rattle.std.proofs.Common.{◌≡◌, ℕ, zero, suc, ◌+◌, ◌<◌, ◌≤◌, Bool, true, false, cond, nat_eq, List, [], ◌∷◌, length, get_or, Some, Ok, Vec, refl, sym, ap, ◌∙◌, subst, arith}
use Rattle.std.specs.declared.alloc.Global.{Global}
use Rattle.std.proofs.lemmas.Bool.Decides.{nat_tests}
use Rattle.cost_model.specs.Rides.{Setting}
use Rattle.cost_table.specs.Costs.{IsCostWithin}
use Rattle.geo_int.specs.Place.{Place}
use Rattle.overpass_graph.specs.Maps.{IsMap, MapValue, roads_of}
use Rattle.overpass_graph.specs.Roads.{IsRoads, Roads}
use Rattle.overpass_graph.specs.Walks.{IsWalkBy, link_at}
use Rattle.route_engine.specs.Answers.{IsAnswerOf as answer}
use Rattle.route_engine.specs.Nearby.{AreNearby, Costed, IsNearby, leg_from, listed, lists_in}
use Rattle.route_engine.specs.NearbyAnswers.{AreAllByIds, AreAllOnMap, AreOnMap, IsByIds, IsNearbyAnswer, IsNearbyFor, node_in}
use Rattle.route_engine.specs.NearbyTexts.{FitMap, FitsMap}
use Rattle.route_engine.specs.Plans.{Plan}
use Rattle.route_engine.specs.Searches.{IsFoundOver}
use Rattle.route_engine.specs.Settings.{Question, open_map_of}
use Rattle.route_engine.specs.Tables.{node_of}
use Rattle.route_engine.specs.Waypoints.{AreNodes}
use Rattle.route_engine.specs.declared.within.Nearby.{Nearby}
use Rattle.route_http.specs.Asked.{Asked}

-- ---- Nodes of the map

-- a walk from a node of the roads ends at one
walk-ends : (roads : Roads) (is_open : ℕ → Bool) (follows : ℕ → ℕ → Type 0) (a b : ℕ) (walk : List ℕ) → IsRoads roads → a < roads.nodes →
    IsWalkBy roads is_open follows a b walk → b < roads.nodes
walk-ends roads is_open follows a b walk lawful starts is = go (length walk) refl
  where
    go : (n : ℕ) → length walk ≡ n → b < roads.nodes
    go zero none = subst (λ (n : ℕ). n < roads.nodes) (is.stays none) starts
    go (suc k) some =
        subst (λ (n : ℕ). n < roads.nodes) (is.arrives k (sym some))
        (lawful.to_in (link_at walk k) (is.open_links k (omega (arith, some))).in_range)

-- each node of a list has a cost there
listed-at : (list : Costed) (place : ℕ) → place < length list → (cost : ℕ) × (listed list (node_in list place) ≡ Some cost)
listed-at [] place below = absurd (omega (arith, below))
listed-at (entry ∷ list) zero below = go (nat_eq entry.0 entry.0) refl
  where
    go : (b : Bool) → nat_eq entry.0 entry.0 ≡ b → (cost : ℕ) × (cond b (Some entry.1) (listed list entry.0) ≡ Some cost)
    go true same = (entry.1, refl)
    go false other = absurd (grind (arith, nat_tests, other))
listed-at (entry ∷ list) (suc place) below =
    go (nat_eq entry.0 (node_in list place)) (listed-at list place (omega (arith, below)))
  where
    go : (b : Bool) → (cost : ℕ) × (listed list (node_in list place) ≡ Some cost) →
        (cost : ℕ) × (cond b (Some entry.1) (listed list (node_in list place)) ≡ Some cost)
    go true later = (entry.1, refl)
    go false later = later

module _ (map : MapValue) (plan : Plan) (same : plan.setting.terrain.map ≡ map) (lawful : IsMap map)
    (starts : (number : ℕ) → number < length plan.nodes → node_of plan number < length map.nodes) (most : ℕ) where
  -- a node to which it costs so much to come from a waypoint is on the map
  pub costly-on : (number node : ℕ) → number < length plan.nodes → (cost : ℕ) → IsCostWithin (leg_from plan number node) most (Some cost) →
      node < length map.nodes
  costly-on number node below cost least =
      let many : length plan.setting.terrain.map.nodes ≡ length map.nodes = ap (λ (m : MapValue). length m.nodes) same in
      let start = starts number below in
      let ends : node < length plan.setting.terrain.map.nodes =
      walk-ends (roads_of plan.setting.terrain.map) _ _ (node_of plan number) node least.least.walk
      (subst (λ (m : MapValue). IsRoads (roads_of m)) (sym same) lawful.roads) (omega (arith, many, start))
      least.least.least.is_walk in
      omega (arith, many, ends)

  -- what lies within a cost of a waypoint is on the map
  nearby-on : (number : ℕ) (list : Costed) → number < length plan.nodes → IsNearby plan most number list → AreOnMap map list
  nearby-on number list below near place inside =
      let found = listed-at list place inside in
      let least = subst (IsCostWithin (leg_from plan number (node_in list place)) most) found.1 (near.costs (node_in list place)) in
      costly-on number (node_in list place) below found.0 least

  -- it stands by ascending id
  nearby-by_ids : (number : ℕ) (list : Costed) → number < length plan.nodes → IsNearby plan most number list → IsByIds map list
  nearby-by_ids number list below near =
      let there = nearby-on number list below near in
      record { there = there; rising = λ i j before inside. lawful.ascending _ _ (near.rising i j before inside) (there j inside) }

  -- so it is of each waypoint
  lists-by_ids : (lists : Vec (Vec (ℕ × ℕ) Global) Global) → AreNearby plan most lists → AreAllByIds map (lists_in lists.items)
  lists-by_ids lists are number below =
      let inside : number < length plan.nodes = omega (arith, are.count, below) in
      nearby-by_ids number (get_or (lists_in lists.items) number []) inside (are.each number inside)

-- the nodes of a plan are on its map
plan-on : (setting : Setting) (waypoints : List Place) (nodes : List ℕ) (map : MapValue) → setting.terrain.map ≡ map →
    AreNodes (open_map_of setting) waypoints nodes → (number : ℕ) → number < length nodes → get_or nodes number 0 < length map.nodes
plan-on setting waypoints nodes map same mapped number below =
    let moved = mapped.each number (omega (arith, mapped.count, below)) in
    let many : length setting.terrain.map.nodes ≡ length map.nodes = ap (λ (m : MapValue). length m.nodes) same in
    omega (arith, many, moved.0.in_range)

-- the nodes of what was found over a setting are on its map, and stand by ascending id
pub found-by_ids : (map : MapValue) (setting : Setting) (asked : Asked) (nearby : Nearby) → setting.terrain.map ≡ map → IsMap map →
    IsFoundOver IsNearbyFor setting asked nearby → AreAllByIds map (lists_in nearby.lists.items)
found-by_ids map setting asked nearby same lawful found =
    let over : found.plan.setting.terrain.map ≡ map = ap (λ (s : Setting). s.terrain.map) found.for_request.over ∙ same in
    lists-by_ids map found.plan over lawful
    (plan-on setting asked.waypoints found.plan.nodes map same found.for_request.nodes) found.plan.cost nearby.lists found.is.lists

-- so they are on it
pub found-on : (map : MapValue) (setting : Setting) (asked : Asked) (nearby : Nearby) → setting.terrain.map ≡ map → IsMap map →
    IsFoundOver IsNearbyFor setting asked nearby → AreAllOnMap map (lists_in nearby.lists.items)
found-on map setting asked nearby same lawful found number below = (found-by_ids map setting asked nearby same lawful found number below).there

-- the nodes of what answers a question stand by ascending id
pub answer-by_ids : (question : Question) (nearby : Nearby) → IsMap question.binding.map → IsNearbyAnswer question (Ok nearby) →
    AreAllByIds question.binding.map (lists_in nearby.lists.items)
answer-by_ids question nearby lawful (answer.found {plan = plan} of is) =
    let over : plan.setting.terrain.map ≡ question.binding.map = ap (λ (p : Plan). p.setting.terrain.map) of.is ∙ of.over.map in
    let nodes : of.nodes ≡ plan.nodes = ap (λ (p : Plan). p.nodes) (sym of.is) in
    lists-by_ids question.binding.map plan over lawful
    (plan-on of.setting question.asked.waypoints plan.nodes question.binding.map of.over.map
    (subst (AreNodes (open_map_of of.setting) question.asked.waypoints) nodes of.mapped))
    plan.cost nearby.lists is.lists

-- ---- Lists that may be written

-- in a list that rises from below each place is no greater than what stands there
place-low : (list : Costed) → ((i j : ℕ) → i < j → j < length list → node_in list i < node_in list j) → (place : ℕ) → place < length list →
    place ≤ node_in list place
place-low list rising zero below = omega arith
place-low list rising (suc place) below =
    let before = place-low list rising place (omega (arith, below)) in
    let more = rising place (suc place) (omega arith) below in
    omega (arith, before, more)

-- so a list that rises is no longer than its map
list-few : (map : MapValue) (list : Costed) → ((i j : ℕ) → i < j → j < length list → node_in list i < node_in list j) → AreOnMap map list →
    length list ≤ length map.nodes
list-few map list rising there = go (length list) refl
  where
    go : (n : ℕ) → length list ≡ n → n ≤ length map.nodes
    go zero none = omega arith
    go (suc n) some =
        let below : n < length list = omega (arith, some) in
        omega (arith, place-low list rising n below, there n below)

-- lists each of which fits a map fit it
all-fit : (map : MapValue) (lists : List Costed) → ((number : ℕ) → number < length lists → FitsMap map (get_or lists number [])) → FitMap map lists
all-fit map [] each = tt
all-fit map (list ∷ lists) each =
    (each 0 (omega arith), all-fit map lists (λ number below. each (suc number) (omega (arith, below))))

-- what was found over a setting fits its map
pub found-fit : (map : MapValue) (setting : Setting) (asked : Asked) (nearby : Nearby) → setting.terrain.map ≡ map → IsMap map →
    IsFoundOver IsNearbyFor setting asked nearby → FitMap map (lists_in nearby.lists.items)
found-fit map setting asked nearby same lawful found =
    let lists = lists_in nearby.lists.items in
    let on = found-on map setting asked nearby same lawful found in
    all-fit map lists (λ number below.
    let near = found.is.lists.each number (omega (arith, below, found.is.lists.count)) in
    record { there = on number below; few = list-few map (get_or lists number []) near.rising (on number below) })
