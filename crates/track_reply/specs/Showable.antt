-- Which tracks a reply may show (this project's own rule).
use Rattle.std.specs.Prelude.{◌≡◌, ℕ, ◌<◌, ◌^◌, false, pos, List, [], length, get_or}
use Rattle.cost_model.specs.Rides.{Terrain, Ride, ride_of}
use Rattle.track_legs.specs.Rows.{AreBelow}
use Rattle.track_legs.specs.Tracks.{IsTrack, no_leg, node_at}
use Rattle.track_legs.specs.declared.row.Row.{Row}
use Rattle.track_legs.specs.declared.track.Leg.{Leg}
use Rattle.track_legs.specs.declared.track.Track.{Track}
use Rattle.track_reply.specs.Source.{Source}
use Rattle.track_legs.specs.Sums.{total_cost, total_rank}

-- the links of these legs are below a count
abbrev pub AreLegsBelow : ℕ → List Leg → Type 0
AreLegsBelow count legs = (k : ℕ) → k < length legs → AreBelow count (get_or legs k no_leg).links

-- no row
abbrev pub no_row : Row
no_row = record {
  link = 0;
  parts = record { distance = pos 0; turn = pos 0; initial = pos 0; node = pos 0; elevation = pos 0 };
}

-- the links of these rows are below a count
abbrev pub AreRowsBelow : ℕ → List Row → Type 0
AreRowsBelow count rows = (k : ℕ) → k < length rows → (get_or rows k no_row).link < count

-- the links of each of these walks are below a count
abbrev pub AreWalksBelow : ℕ → List (List ℕ) → Type 0
AreWalksBelow count walks = (k : ℕ) → k < length walks → AreBelow count (get_or walks k [])

-- the links of the alternatives of each of these legs are below a count
abbrev pub AreAlternativesBelow : ℕ → List (List (List ℕ)) → Type 0
AreAlternativesBelow count earlier = (k : ℕ) → k < length earlier → AreWalksBelow count (get_or earlier k [])

-- the terrain that a reply tells of
abbrev pub terrain_shown : Source → Terrain
terrain_shown source = record { map = source.map; links = source.links; prices = source.prices }

-- the ride over a terrain where no link is cut and no turn is forbidden
abbrev pub uncut_ride : Terrain → Ride
uncut_ride terrain = ride_of (record { terrain = terrain; cut = []; turns = false })

-- it is a track where no link is cut and no turn is forbidden, its nodes and the links of earlier
-- alternatives are the map's, and the costs and the ranks of its legs add up to less than 2^127 each
pub record IsShowable (source : Source) (track : Track) : Type 0 where
  pub counted : source.links.count ≡ length source.map.links
  pub legs : IsTrack (uncut_ride (terrain_shown source)) track
  pub nodes : (k : ℕ) → k < length track.nodes → node_at track k < length source.map.nodes
  pub earlier : AreAlternativesBelow (length source.map.links) track.earlier
  pub costs : total_cost track.legs < 2 ^ 127
  pub ranks : total_rank track.legs < 2 ^ 127
