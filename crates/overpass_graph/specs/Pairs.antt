-- Links in pairs, forward and backward along each segment (this project's own rule).
use Rattle.std.specs.Prelude.{◌≡◌, ℕ, ◌*◌, ◌<◌, true, false, List, [], ◌∷◌, ◌++◌, length, get_or}
use Rattle.overpass_graph.specs.declared.link.Link.{Link}
use Rattle.overpass_graph.specs.declared.pairs.Piece.{Piece}
use Rattle.overpass_graph.specs.declared.pairs.Laid.{Laid}

-- the links between so many nodes
pub record Net : Type 0 where
  pub nodes : ℕ
  pub links : List Link

-- the links of segments, where each of them is left at one end by its forward link and at the other by its
-- backward one
abbrev pub paired : List ℕ → List Piece → List Link
paired ends [] = []
paired [] (piece ∷ pieces) = []
paired (a ∷ []) (piece ∷ pieces) = []
paired (a ∷ b ∷ ends) (piece ∷ pieces) =
    record { from = a; to = b; way = piece.way; segment = piece.segment; back = false } ∷
    record { from = b; to = a; way = piece.way; segment = piece.segment; back = true } ∷ paired ends pieces

-- each link is laid from one of so many nodes
abbrev pub AreEndsBelow : ℕ → List ℕ → Type 0
AreEndsBelow nodes ends = (k : ℕ) → k < length ends → get_or ends k 0 < nodes

-- the links that are laid
abbrev pub links_now : Laid → List Link
links_now laid = paired laid.ends.items laid.pieces.items

-- two ends are laid for each segment, among so many nodes
pub record IsSoundLaid (nodes : ℕ) (laid : Laid) : Type 0 where
  pub even : length laid.ends.items ≡ 2 * length laid.pieces.items
  pub below : AreEndsBelow nodes laid.ends.items

-- these links are laid besides
pub record Lays (nodes : ℕ) (old new : Laid) (more : List Link) : Type 0 where
  pub sound : IsSoundLaid nodes new
  pub links : links_now new ≡ links_now old ++ more
