-- What crates above may cite of tracks.
use Rattle.cost_model.specs.Rides.{Ride}
use Rattle.track_legs.specs.Rows.{HasLinksBelow}
use Rattle.track_legs.specs.Tracks.{IsTrack}
use Rattle.track_legs.specs.declared.track.Track.{Track}

-- the links of a track are links of the roads, so that it has rows
pub track-links : (ride : Ride) (track : Track) → IsTrack ride track → HasLinksBelow ride.roads.links track
track-links ride track is = λ k below position inside. ((is.legs k below).walk.open_links position inside).in_range
