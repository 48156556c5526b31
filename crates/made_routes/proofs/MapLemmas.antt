-- The map of a grid's text is the grid's map, and that text has no fault.
use Rattle.std.proofs.Common.{◌≡◌, ◌⊎◌, inl, inr, ℕ, pos, ◌+◌, ◌*◌, ◌<◌, true, false, List, ◌++◌, length, get_or, slice_get, Some, None, Result, Ok, Err, refl, sym, ap, ◌∙◌, subst, arith}
use lib.Signed.{◌<ℤ◌}
use Rattle.std.proofs.lemmas.Int.{ints}
use Rattle.std.proofs.lemmas.List.{length-map}
use Rattle.std.proofs.lemmas.List.FromFn.{length-map-range_with_len}
use Rattle.std.proofs.lemmas.Option.{get_or_from_slice_get}
use Rattle.grid_map.specs.declared.plan.Plan.{Plan}
use Rattle.grid_map.specs.declared.segment.GridSegment.{GridSegment}
use Rattle.grid_map.specs.MapText.{overpass_text}
use Rattle.grid_map.specs.Plan.{IsPlan, cells_of, end_of, start_of}
use Rattle.grid_map.specs.Segments.{numbers_of, segment_of, segments_of}
use Rattle.grid_map.proofs.ListLemmas.{segments_of-at}
use Rattle.grid_map.proofs.NumberLemmas.{IsNumber}
use Rattle.grid_map.proofs.StepLemmas.{is_there-within}
use Rattle.map_elements.specs.Outcome.{ComesTo}
use Rattle.map_elements.specs.Trees.{AreItemsOfTree, AreMembersOfTree, tree_steps}
use Rattle.map_tables.specs.Draft.{Draft}
use Rattle.map_tables.specs.declared.error.MapError.{MapError}
use Rattle.map_tables.specs.declared.error.MapError.TheVariants.{NoMemory}
use Rattle.overpass_graph.specs.Builder.{IsFaultOfBeginning, IsFaultOfText, IsMapOfText, most}
use Rattle.overpass_graph.specs.Links.{first_missing, links_from, missing_fault}
use Rattle.overpass_graph.specs.Maps.{AreAscending, IsMapOf, MapValue, link_of, no_link, no_node, node_at}
use Rattle.overpass_graph.specs.declared.link.Link.{Link}
use Rattle.made_routes.proofs.DraftLemmas.{HasRoom}
use Rattle.made_routes.proofs.FaultLemmas.{ReadingLaws, comes-once, no-fault-before}
use Rattle.made_routes.proofs.LinkLemmas.{HasCells, back-from, count-links, forth-from, has-cells, links_of, node-there, none-missing, ways-links}
use Rattle.made_routes.proofs.NodeLemmas.{same-nodes}
use Rattle.made_routes.proofs.NumberFacts.{AllOf, all-map, numbers-there}
use Rattle.made_routes.proofs.Trees.{map_tree}
use Rattle.made_routes.proofs.WholeLemmas.{grid-outcome, grid-reads}
use Rattle.made_routes.specs.Elements.{draft_of, node_of, nodes_of, ways_of}
use Rattle.made_routes.specs.Law.{AreReadAsGrids, IsReadAsGrid}
use Rattle.made_routes.specs.Maps.{IsGridMap, link_along}

-- ---- The map of a grid's elements

-- the nodes of a grid ascend
nodes-ascend : (plan : Plan) → AreAscending (nodes_of plan)
nodes-ascend plan i j less within =
    let count : length (nodes_of plan) ≡ cells_of plan = length-map-range_with_len (node_of plan) 0 (cells_of plan) in
    let first : node_at (nodes_of plan) i ≡ node_of plan i =
    get_or_from_slice_get (nodes_of plan) i (node_of plan i) no_node (node-there plan i (omega (arith, less, within, count))) in
    let second : node_at (nodes_of plan) j ≡ node_of plan j =
    get_or_from_slice_get (nodes_of plan) j (node_of plan j) no_node (node-there plan j (omega (arith, within, count))) in
    rw (first, second) (ids i j less)
  where
    ids : (i j : ℕ) → i < j → pos (i + 1) <ℤ pos (j + 1)
    ids i j less = omega (arith, ints, less)

-- what is known of all segments
cells-there : (plan : Plan) → IsPlan plan → AllOf (HasCells plan) (numbers_of plan)
cells-there plan lawful =
    all-map (IsNumber plan) (HasCells plan)
    (λ k is.
    let within = is_there-within plan k lawful.some_width is.there in
    has-cells plan k lawful.some_width is.there within.start within.end)
    (numbers_of plan) (numbers-there plan)

-- no way of a grid lacks a node
grid-complete : (plan : Plan) → IsPlan plan → missing_fault (first_missing (nodes_of plan) (ways_of plan)) ≡ None
grid-complete plan lawful = ap missing_fault (none-missing plan (numbers_of plan) (cells-there plan lawful))

-- the map of a grid's elements is the grid's
grid-map : (plan : Plan) → IsPlan plan → (map : MapValue) → IsMapOf (draft_of plan) map → IsGridMap plan map
grid-map plan lawful map is =
    let nodes : map.nodes ≡ nodes_of plan = same-nodes (nodes_of plan) map.nodes (nodes-ascend plan) is.ascending is.same_nodes in
    let links : map.links ≡ links_of plan 0 (numbers_of plan) =
    is.links ∙ ap (λ ns. links_from ns 0 (ways_of plan)) nodes ∙ ways-links plan (numbers_of plan) 0 (cells-there plan lawful) in
    record {
      nodes = nodes;
      ways = is.ways;
      count = ap (λ (ls : List Link). length ls) links ∙ count-links plan (numbers_of plan) 0
          ∙ ap (λ (n : ℕ). 2 * n) (sym (length-map (numbers_of plan) (segment_of plan)));
      forth = λ place segment at. forth-at links place segment at;
      back = λ place segment at. back-at links place segment at;
      free = is.restrictions;
    }
  where
    forth-at : map.links ≡ links_of plan 0 (numbers_of plan) → (place : ℕ) (segment : GridSegment) →
        slice_get (segments_of plan) place ≡ Some segment → link_of map (2 * place) ≡ link_along place segment.a segment.b false
    forth-at links place segment at =
        let found = segments_of-at plan place segment at in
        let here : 0 + place ≡ place = omega arith in
        ap (λ (ls : List Link). get_or ls (2 * place) no_link) links ∙ forth-from plan (numbers_of plan) 0 place found.k found.at
        ∙ ap (λ w. link_along w (start_of found.k) (end_of plan found.k) false) here
        ∙ ap (λ (s : GridSegment). link_along place s.a s.b false) found.is

    back-at : map.links ≡ links_of plan 0 (numbers_of plan) → (place : ℕ) (segment : GridSegment) →
        slice_get (segments_of plan) place ≡ Some segment → link_of map (2 * place + 1) ≡ link_along place segment.b segment.a true
    back-at links place segment at =
        let found = segments_of-at plan place segment at in
        let here : 0 + place ≡ place = omega arith in
        ap (λ (ls : List Link). get_or ls (2 * place + 1) no_link) links ∙ back-from plan (numbers_of plan) 0 place found.k found.at
        ∙ ap (λ w. link_along w (end_of plan found.k) (start_of found.k) true) here
        ∙ ap (λ (s : GridSegment). link_along place s.b s.a true) found.is

-- ---- The map of a grid's text

-- a grid fits into what a map may hold
grid-room : HasRoom most
grid-room = record { nodes = omega arith; ways = omega arith; segments = omega arith }

-- two drafts that are answered are one
same-ok : (d e : Draft) (r : Result Draft MapError) → r ≡ Ok d → r ≡ Ok e → d ≡ e
same-ok d e r first second = cc

-- the laws that the reader's parts promise
pub record MapLaws : Type 0 where
  pub readings : ReadingLaws
  pub members : AreMembersOfTree
  pub items : AreItemsOfTree

module _ (laws : MapLaws) (plan : Plan) (lawful : IsPlan plan) where
  -- a draft to which the text comes is the grid's
  one-draft : (draft : Draft) → ComesTo most (overpass_text plan) true (Ok draft) → draft ≡ draft_of plan
  one-draft draft comes =
      same-ok draft (draft_of plan) (Ok draft) refl
      (comes-once laws.readings most (overpass_text plan) (tree_steps (map_tree plan)) (draft_of plan)
      (grid-reads laws.readings plan lawful) (grid-outcome laws.members laws.items most grid-room plan lawful) (Ok draft) comes)

  -- the map of the text is the grid's
  text-map : (map : MapValue) → IsMapOfText (overpass_text plan) map → IsGridMap plan map
  text-map map is = grid-map plan lawful map (subst (λ d. IsMapOf d map) (one-draft is.draft is.comes) is.is_map)

  -- no beginning of the text has a fault
  front-fault : (front rest : List ℕ) (fault : MapError) → front ++ rest ≡ overpass_text plan → IsFaultOfBeginning front fault → ⊥
  front-fault front rest fault whole is =
      no-fault-before laws.readings most (overpass_text plan) (tree_steps (map_tree plan)) (draft_of plan)
      (grid-reads laws.readings plan lawful) (grid-outcome laws.members laws.items most grid-room plan lawful) front rest fault whole is

  -- nor has its end
  end-fault : (fault : MapError) → IsFaultOfText (overpass_text plan) fault → ⊥
  end-fault fault (inl comes) =
      let same =
      comes-once laws.readings most (overpass_text plan) (tree_steps (map_tree plan)) (draft_of plan) (grid-reads laws.readings plan lawful)
      (grid-outcome laws.members laws.items most grid-room plan lawful) (Err fault) comes in
      absurd (cc)
  end-fault fault (inr lacks) =
      let same : lacks.draft ≡ draft_of plan = one-draft lacks.draft lacks.comes in
      let none : missing_fault (first_missing lacks.draft.nodes lacks.draft.ways) ≡ None =
      ap (λ (d : Draft). missing_fault (first_missing d.nodes d.ways)) same ∙ grid-complete plan lawful in
      let some : missing_fault (first_missing lacks.draft.nodes lacks.draft.ways) ≡ Some fault = lacks.lacks in
      absurd (cc)

-- the texts of grids are read as their maps
pub read-as-grids : MapLaws → AreReadAsGrids
read-as-grids laws plan lawful =
    record { before = front-fault laws plan lawful; behind = end-fault laws plan lawful; map = text-map laws plan lawful }

-- ---- What refuses such a text

module _ (plan : Plan) (is : IsReadAsGrid plan) where
  -- what refuses a beginning of the text is want of memory
  pub only-memory-before : (front rest : List ℕ) (error : MapError) → front ++ rest ≡ overpass_text plan →
      (error ≡ NoMemory) ⊎ IsFaultOfBeginning front error → error ≡ NoMemory
  only-memory-before front rest error whole (inl none) = none
  only-memory-before front rest error whole (inr fault) = absurd (is.before front rest error whole fault)

  -- what refuses the text at its end is want of memory
  pub only-memory-behind : (bytes : List ℕ) (error : MapError) → bytes ≡ overpass_text plan →
      (error ≡ NoMemory) ⊎ IsFaultOfText bytes error → error ≡ NoMemory
  only-memory-behind bytes error same (inl none) = none
  only-memory-behind bytes error same (inr fault) = absurd (is.behind error (subst (λ (t : List ℕ). IsFaultOfText t error) same fault))
