-- What is read of a map by the parts that it is made of.
use Rattle.std.proofs.Common.{◌≡◌, ℕ, ℤ, ◌<◌, List, length, get_or, slice_get, Some, option_map, sym, ap, ◌∙◌, subst, arith}
use Rattle.std.proofs.lemmas.Option.{slice_get-get_or}
use Rattle.std.proofs.lemmas.List.{get_or_read}
use Rattle.geo_int.specs.Place.{Place}
use Rattle.map_tables.specs.Kept.{Kept, place_of_id}
use Rattle.overpass_graph.specs.Made.{map_value, IsMade}
use Rattle.overpass_graph.specs.Maps.{MapValue, IsMap, node_at, no_node, way_at, no_way}
use Rattle.overpass_graph.specs.Orders.{picked}
use Rattle.overpass_graph.specs.Pairs.{Net}
use Rattle.overpass_graph.specs.Turns.{TurnTable}
use Rattle.overpass_graph.proofs.NodeLemmas.{picked-length, picked-at, number_found}

-- a node of the map by its number: its place in the text is in range, and what stands there is what the map has
pub record IsNodeAt (nodes : List (Kept Place)) (map : MapValue) (node place : ℕ) : Type 0 where
  pub below : place < length nodes
  pub there : slice_get nodes place ≡ Some (node_at map.nodes node)

-- the place of a node
pub node-place : (nodes : List (Kept Place)) (ways : List (Kept (List ℤ))) (places numbers : List ℕ) (net : Net) (turns : TurnTable) (map :
    MapValue) →
    IsMade nodes ways places numbers net turns → map_value nodes ways places net turns ≡ map →
    (node place : ℕ) → node < length map.nodes → place ≡ get_or places node place → IsNodeAt nodes map node place
node-place nodes ways places numbers net turns map made seen node place node_in place_is =
    let all : picked nodes places ≡ map.nodes = ap (λ (m : MapValue). m.nodes) seen in
    let size : length map.nodes ≡ length nodes = ap length (sym all) ∙ picked-length nodes places numbers made.order in
    let inside : node < length nodes = omega (arith, size) in
    let read = get_or_read places node place (omega (arith, made.order.places_length)) place_is 0 in
    let below : place < length nodes = rw read (made.order.place_in node inside) in
    record {
      below = below;
      there = slice_get-get_or nodes place no_node below ∙ ap (λ p. Some (node_at nodes p)) read
          ∙ ap Some (sym (picked-at nodes places numbers made.order node inside)) ∙ ap (λ ns. Some (node_at ns node)) all;
    }

-- the list of places has each node
pub node-within : (nodes : List (Kept Place)) (ways : List (Kept (List ℤ))) (places numbers : List ℕ) (net : Net) (turns : TurnTable) (map :
    MapValue) →
    IsMade nodes ways places numbers net turns → map_value nodes ways places net turns ≡ map → length places ≡ length map.nodes
node-within nodes ways places numbers net turns map made seen =
    made.order.places_length ∙ sym (picked-length nodes places numbers made.order) ∙ ap (λ (m : MapValue). length m.nodes) seen

-- there are as many nodes
pub node-count : (nodes : List (Kept Place)) (ways : List (Kept (List ℤ))) (places numbers : List ℕ) (net : Net) (turns : TurnTable) (map :
    MapValue) →
    IsMade nodes ways places numbers net turns → map_value nodes ways places net turns ≡ map → length nodes ≡ length map.nodes
node-count nodes ways places numbers net turns map made seen =
    sym (picked-length nodes places numbers made.order) ∙ ap (λ (m : MapValue). length m.nodes) seen

-- a node is found by its id
pub node-found : (nodes : List (Kept Place)) (ways : List (Kept (List ℤ))) (places numbers : List ℕ) (net : Net) (turns : TurnTable) (map :
    MapValue) →
    IsMade nodes ways places numbers net turns → map_value nodes ways places net turns ≡ map → (id : ℤ) →
    place_of_id id map.nodes ≡ option_map (λ p. get_or numbers p 0) (place_of_id id nodes)
node-found nodes ways places numbers net turns map made seen id =
    ap (λ (m : MapValue). place_of_id id m.nodes) (sym seen) ∙ number_found nodes places numbers made.distinct made.order id

-- the map is lawful
pub made-lawful : (nodes : List (Kept Place)) (ways : List (Kept (List ℤ))) (places numbers : List ℕ) (net : Net) (turns : TurnTable) (map :
    MapValue) →
    IsMade nodes ways places numbers net turns → map_value nodes ways places net turns ≡ map → IsMap map
made-lawful nodes ways places numbers net turns map made seen = subst IsMap seen made.lawful

-- a way by its number
pub way-there : (nodes : List (Kept Place)) (ways : List (Kept (List ℤ))) (places : List ℕ) (net : Net) (turns : TurnTable) (map :
    MapValue) →
    map_value nodes ways places net turns ≡ map → (way : ℕ) → way < length map.ways → slice_get ways way ≡ Some (way_at map.ways way)
way-there nodes ways places net turns map seen way below =
    let all : ways ≡ map.ways = ap (λ (m : MapValue). m.ways) seen in
    ap (λ ws. slice_get ws way) all ∙ slice_get-get_or map.ways way no_way below
