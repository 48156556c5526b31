-- Roads as numbers: nodes, and links from node to node in pairs that are each other's way back (this
-- project's own rule).
use Rattle.std.specs.Prelude.{◌≡◌, ℕ, zero, suc, ◌+◌, ◌-◌, ◌%◌, ◌^◌, ◌<◌, ◌==◌, List, [], ◌∷◌, ◌++◌, if◌then◌else◌}

-- so many nodes and links, and where each link leaves and where it arrives
pub record Roads : Type 0 where
  pub nodes : ℕ
  pub links : ℕ
  pub from : ℕ → ℕ
  pub to : ℕ → ℕ

-- the way back of a link: links 2i and 2i + 1 are a pair
unfoldable pub twin_of : ℕ → ℕ
twin_of link = if link % 2 == 0 then link + 1 else link - 1

-- the numbers below a count at which something has this value, ascending
unfoldable pub places_below : (ℕ → ℕ) → ℕ → ℕ → List ℕ
places_below key value zero = []
places_below key value (suc n) =
    if key n == value then places_below key value n ++ n ∷ [] else places_below key value n

-- the links that leave a node, ascending
abbrev pub out_links : Roads → ℕ → List ℕ
out_links roads node = places_below roads.from node roads.links

-- the numbers are in range, and the links are pairs with their ends exchanged
pub record IsRoads (roads : Roads) : Type 0 where
  pub few_nodes : roads.nodes < 2 ^ 32
  pub few_links : roads.links < 2 ^ 32
  pub from_in : (link : ℕ) → link < roads.links → roads.from link < roads.nodes
  pub to_in : (link : ℕ) → link < roads.links → roads.to link < roads.nodes
  pub twin_in : (link : ℕ) → link < roads.links → twin_of link < roads.links
  pub twin_from : (link : ℕ) → link < roads.links → roads.from (twin_of link) ≡ roads.to link
  pub twin_to : (link : ℕ) → link < roads.links → roads.to (twin_of link) ≡ roads.from link
