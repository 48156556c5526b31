-- Orders of links: a place for each link, and a link for each place (this project's own rule).
use Rattle.std.specs.Prelude.{◌≡◌, ℕ, ◌<◌, ◌^◌, List, length, get_or}

-- for each place the link that stands there, and for each link its place
pub record Order : Type 0 where
  pub links : List ℕ
  pub places : List ℕ

-- the link at a place
abbrev pub link_at : Order → ℕ → ℕ
link_at order place = get_or order.links place 0

-- the place of a link
abbrev pub place_of : Order → ℕ → ℕ
place_of order link = get_or order.places link 0

-- each item of a list is a place of the other one, where its own place stands
abbrev pub LeadsBack : List ℕ → List ℕ → ℕ → Type 0
LeadsBack there back count = (k : ℕ) → k < count → (get_or there k 0 < length back) × (get_or back (get_or there k 0) 0 ≡ k)

-- both lists are as long, and inverse to each other: each link has one place, and each place one link
pub record IsOrder (order : Order) : Type 0 where
  pub few : length order.links < 2 ^ 32
  pub counted : length order.places ≡ length order.links
  pub link_in : (place : ℕ) → place < length order.links → link_at order place < length order.links
  pub place_in : (link : ℕ) → link < length order.links → place_of order link < length order.links
  pub place_is : (place : ℕ) → place < length order.links → place_of order (link_at order place) ≡ place
  pub link_is : (link : ℕ) → link < length order.links → link_at order (place_of order link) ≡ link

-- the numbers below a count, in their order
pub record AreAscending (count : ℕ) (numbers : List ℕ) : Type 0 where
  pub counted : length numbers ≡ count
  pub is : (k : ℕ) → k < count → get_or numbers k 0 ≡ k
