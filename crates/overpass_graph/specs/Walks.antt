-- Walks along links, by the positions of a list of links (this project's own rule).
use Rattle.std.specs.Prelude.{◌≡◌, ◌≢◌, ℕ, suc, ◌<◌, Bool, false, IsTrue, List, length, get_or}
use Rattle.overpass_graph.specs.Roads.{Roads}

-- the link at a position of a walk
abbrev pub link_at : List ℕ → ℕ → ℕ
link_at walk position = get_or walk position 0

-- a link of the roads that is open
pub record IsOpenLink (roads : Roads) (is_open : ℕ → Bool) (link : ℕ) : Type 0 where
  pub in_range : link < roads.links
  pub «open» : IsTrue (is_open link)

-- a list of links is a walk from a node to a node: its links are open, the first leaves the one node and the
-- last arrives at the other, each next one follows the one before it, and without links it stays where it is
pub record IsWalkBy (roads : Roads) (is_open : ℕ → Bool) (follows : ℕ → ℕ →
    Type 0) (a b : ℕ) (walk : List ℕ) : Type 0 where
  pub open_links : (k : ℕ) → k < length walk → IsOpenLink roads is_open (link_at walk k)
  pub leaves : 0 < length walk → roads.from (link_at walk 0) ≡ a
  pub arrives : (k : ℕ) → suc k ≡ length walk → roads.to (link_at walk k) ≡ b
  pub goes_on : (k : ℕ) → suc k < length walk → follows (link_at walk k) (link_at walk (suc k))
  pub stays : length walk ≡ 0 → a ≡ b

-- the second link leaves where the first arrives
abbrev pub Joins : Roads → ℕ → ℕ → Type 0
Joins roads first second = roads.from second ≡ roads.to first

-- the second link may be taken after the first: it leaves where the first arrives, doesn't go back to where
-- the first left, and isn't forbidden after it
pub record MayFollow (roads : Roads) (forbids : ℕ → ℕ → Bool) (first second : ℕ) : Type 0 where
  pub joins : Joins roads first second
  pub goes_ahead : roads.to second ≢ roads.from first
  pub allowed : forbids first second ≡ false

-- a list of open links each of which leaves where the one before it arrived, from a node to a node
abbrev pub IsJoinedWalk : (roads : Roads) (is_open : ℕ → Bool) (from to : ℕ) (links : List ℕ) → Type 0
IsJoinedWalk roads is_open = IsWalkBy roads is_open (Joins roads)
