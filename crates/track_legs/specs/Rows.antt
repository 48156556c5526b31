-- The rows of a track: one for each link of each leg, with the parts of its cost (this project's own rule).
use Rattle.std.specs.Prelude.{ℕ, zero, suc, ◌<◌, List, [], ◌∷◌, ◌++◌, length}
use Rattle.cost_model.specs.Prices.{Prices}
use Rattle.cost_model.specs.Walks.{parts_at}
use Rattle.cost_model.specs.declared.facts.LinkFacts.{LinkFacts}
use Rattle.overpass_graph.specs.Walks.{link_at}
use Rattle.track_legs.specs.Tracks.{leg_at}
use Rattle.track_legs.specs.declared.row.Row.{Row}
use Rattle.track_legs.specs.declared.track.Leg.{Leg}
use Rattle.track_legs.specs.declared.track.Track.{Track}

-- the row of a position of a walk
abbrev pub row_at : (prices : Prices) (facts : ℕ → LinkFacts) (walk : List ℕ) (position : ℕ) → Row
row_at prices facts walk position =
    record { link = link_at walk position; parts = parts_at prices facts walk position }

-- the rows of the positions of a walk before this one
abbrev pub rows_before : (prices : Prices) (facts : ℕ → LinkFacts) (walk : List ℕ) (position : ℕ) → List Row
rows_before prices facts walk zero = []
rows_before prices facts walk (suc position) =
    rows_before prices facts walk position ++ row_at prices facts walk position ∷ []

-- the rows of a walk
abbrev pub rows_of_walk : Prices → (ℕ → LinkFacts) → List ℕ → List Row
rows_of_walk prices facts walk = rows_before prices facts walk (length walk)

-- the rows of legs, one leg after the other
abbrev pub rows_of_legs : Prices → (ℕ → LinkFacts) → List Leg → List Row
rows_of_legs prices facts [] = []
rows_of_legs prices facts (leg ∷ legs) = rows_of_walk prices facts leg.links ++ rows_of_legs prices facts legs

-- the rows of a track
abbrev pub rows_of : Prices → (ℕ → LinkFacts) → Track → List Row
rows_of prices facts track = rows_of_legs prices facts track.legs

-- the links of a walk are below a count
abbrev pub AreBelow : ℕ → List ℕ → Type 0
AreBelow count walk = (position : ℕ) → position < length walk → link_at walk position < count

-- the links of a track are below a count
abbrev pub HasLinksBelow : ℕ → Track → Type 0
HasLinksBelow count track = (k : ℕ) → k < length track.legs → AreBelow count (leg_at track k).links
