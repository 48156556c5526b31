-- The nodes that each node is joined to above it, as rows that grow until they are closed (this project's own rule).
use Rattle.std.specs.Prelude.{◌≡◌, ◌≢◌, ℕ, ◌+◌, ◌<◌, ◌≤◌, ◌⊎◌, List, length, get_or}
use Rattle.item_list.specs.Pages.{page_at}
pub use Rattle.link_hierarchy.specs.Walks.{Holds}
use Rattle.link_hierarchy.specs.declared.arcs.Arc.{Arc}

-- nodes in their order
abbrev pub AreAscending : List ℕ → Type 0
AreAscending row = (i k : ℕ) → i < k → k < length row → get_or row i 0 < get_or row k 0

-- nodes above a node, in their order
pub record IsRow (low nodes : ℕ) (row : List ℕ) : Type 0 where
  pub sorted : AreAscending row
  pub above : (i : ℕ) → i < length row → low < get_or row i 0
  pub within : (i : ℕ) → i < length row → get_or row i 0 < nodes

-- nodes of so many, in their order
pub record IsSorted (nodes : ℕ) (row : List ℕ) : Type 0 where
  pub sorted : AreAscending row
  pub within : (i : ℕ) → i < length row → get_or row i 0 < nodes

-- the first place of a row whose node is above a node
pub record IsFirstAbove (row : List ℕ) (low place : ℕ) : Type 0 where
  pub within : place ≤ length row
  pub before : (k : ℕ) → k < place → get_or row k 0 ≤ low
  pub after : (k : ℕ) → place ≤ k → k < length row → low < get_or row k 0

-- a row is merged from a place up to another one: its nodes are held, and those behind are above all that are
pub record IsSide (row : List ℕ) (start place : ℕ) (made : List ℕ) : Type 0 where
  pub done : (k : ℕ) → start ≤ k → k < place → k < length row → Holds made (get_or row k 0)
  pub next : (m k : ℕ) → m < length made → place ≤ k → k < length row → get_or made m 0 < get_or row k 0
  pub fits : place ≤ start + length row
  pub from_start : start ≤ place

-- the nodes of a row
abbrev pub row_at : List (List ℕ) → ℕ → List ℕ
row_at rows node = page_at rows node

-- rows of all nodes
pub record AreLists (nodes : ℕ) (rows : List (List ℕ)) : Type 0 where
  pub counted : length rows ≡ nodes
  pub row : (node : ℕ) → node < nodes → IsRow node nodes (row_at rows node)

-- an edge stands in the row of its lower end: its head among the heads, or its tail among the tails
abbrev pub IsHeld : (outs ins : List (List ℕ)) (a b : ℕ) → Type 0
IsHeld outs ins a b = Holds (row_at outs a) b ⊎ Holds (row_at ins b) a

-- an edge is put off: a later node has its tail above it, and its head
pub record IsPutOff (outs ins : List (List ℕ)) (tail head done : ℕ) : Type 0 where
  pub by : ℕ
  pub later : done ≤ by
  pub tail_is : Holds (row_at ins by) tail
  pub head_is : Holds (row_at outs by) head

-- rows that hold the first arcs, and the edges from the tails above each of the first nodes to the heads above it, but for those
-- that are put off
pub record AreRows (nodes : ℕ) (outs ins : List (List ℕ)) (arcs : List Arc) (taken done : ℕ) : Type 0 where
  pub outs_are : AreLists nodes outs
  pub ins_are : AreLists nodes ins
  pub held : (k : ℕ) (d : Arc) → k < taken → k < length arcs → (get_or arcs k d).from ≢ (get_or arcs k d).to →
      IsHeld outs ins (get_or arcs k d).from (get_or arcs k d).to
  pub closed : (node tail head : ℕ) → node < done → Holds (row_at ins node) tail → Holds (row_at outs node) head →
      tail ≢ head → IsHeld outs ins tail head ⊎ IsPutOff outs ins tail head done

-- a row takes the place of another, and holds what that held
pub record Widens (nodes : ℕ) (old new : List (List ℕ)) (low : ℕ) : Type 0 where
  pub counted : length new ≡ length old
  pub row : IsRow low nodes (row_at new low)
  pub keeps : (x : ℕ) → Holds (row_at old low) x → Holds (row_at new low) x
  pub others : (other : ℕ) → other ≢ low → row_at new other ≡ row_at old other

-- the rows of the first nodes stand one after the other
pub record IsFlat (rows : List (List ℕ)) (count : ℕ) (starts heads : List ℕ) : Type 0 where
  pub counted : length starts ≡ count + 1
  pub ends : get_or starts count 0 ≡ length heads
  pub long : (v : ℕ) → v < count → get_or starts (v + 1) 0 ≡ get_or starts v 0 + length (row_at rows v)
  pub most : (v : ℕ) → v ≤ count → get_or starts v 0 ≤ length heads
  pub same : (v k : ℕ) → v < count → k < length (row_at rows v) →
      get_or heads (get_or starts v 0 + k) 0 ≡ get_or (row_at rows v) k 0

-- two rows are merged up to places
pub record IsMerging (into from : List ℕ) (low nodes skip i j : ℕ) (made : List ℕ) : Type 0 where
  pub row : IsRow low nodes made
  pub left : IsSide into 0 i made
  pub right : IsSide from skip j made

-- what is read of a row at a place: the node there, or a number above all nodes
pub record IsItem (row : List ℕ) (place item : ℕ) : Type 0 where
  pub there : place < length row → item ≡ get_or row place 0
  pub behind : length row ≤ place → item ≡ 0xffff_ffff

-- the next place, where the node at this one was taken
pub record IsPassed (place item taken next : ℕ) : Type 0 where
  pub on : item ≡ taken → next ≡ place + 1
  pub stays : item ≢ taken → next ≡ place
