-- The names of links, which stay when a map is made again (this project's own rule).
use Rattle.std.specs.Prelude.{◌≡◌, ℕ, ℤ, ◌<◌, ◌≤◌, Bool, cond, List, ◌∷◌, ◌++◌, [], length, get_or, Option, Some, None, decimal}
use Rattle.std.specs.Fmt.{signed_decimal}
use Rattle.overpass_graph.specs.declared.link.Link.{Link}
use Rattle.overpass_graph.specs.Links.{link_weight}
use Rattle.overpass_graph.specs.Maps.{MapValue, link_of, way_at, no_link}

-- the name of a link: the id of its way, its place among the way's segments, and whether it goes backward
pub record LinkName : Type 0 where
  pub way : ℤ
  pub segment : ℕ
  pub back : Bool

-- the name of the link of a number
abbrev pub name_of : MapValue → ℕ → LinkName
name_of map link = record {
  way = (way_at map.ways (link_of map link).way).id;
  segment = (link_of map link).segment;
  back = (link_of map link).back;
}

-- the letter of a direction
abbrev pub letter_of : Bool → List ℕ
letter_of back = cond back (98 ∷ []) (102 ∷ [])

-- a segment and a direction as `segment/f`, or `segment/b` where it goes backward
abbrev pub step_text : ℕ → Bool → List ℕ
step_text segment back = decimal segment ++ (47 ∷ letter_of back)

-- a name as `way/segment/f`, or `way/segment/b` where it goes backward
unfoldable pub name_text : LinkName → List ℕ
name_text name = signed_decimal name.way ++ (47 ∷ step_text name.segment name.back)

-- the link of this name, or that no link of the map has it
abbrev pub FindsLink : MapValue → LinkName → Option ℕ → Type 0
FindsLink map name None = (link : ℕ) → link < length map.links → name_of map link ≡ name → ⊥
FindsLink map name (Some link) = (link < length map.links) × (name_of map link ≡ name)

-- ---- By weight

-- the links before this place weigh less, and those from it on do not
pub record IsPlaceOf (links : List Link) (weight place : ℕ) : Type 0 where
  pub within : place ≤ length links
  pub before : (k : ℕ) → k < place → link_weight (get_or links k no_link) < weight
  pub behind : (k : ℕ) → place ≤ k → k < length links → weight ≤ link_weight (get_or links k no_link)

-- links stand in the order of their weights
abbrev pub AreInOrder : List Link → Type 0
AreInOrder links = (i j : ℕ) → i < j → j < length links →
    link_weight (get_or links i no_link) < link_weight (get_or links j no_link)

-- the link of this weight, or that there is none
abbrev pub FindsWeight : List Link → ℕ → Option ℕ → Type 0
FindsWeight links weight None =
    (link : ℕ) → link < length links → link_weight (get_or links link no_link) ≡ weight → ⊥
FindsWeight links weight (Some link) =
    (link < length links) × (link_weight (get_or links link no_link) ≡ weight)
