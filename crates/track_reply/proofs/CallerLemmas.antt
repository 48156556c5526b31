-- What crates above may cite of replies: each track that a request comes to is one that a reply may show.
use Rattle.std.proofs.Common.{◌≡◌, ℕ, ◌<◌, ◌^◌, Bool, true, false, not, ◌&&◌, List, length, IsTrue, refl}
use Rattle.cost_model.specs.OpenLinks.{is_passable, is_cut}
use Rattle.cost_model.specs.Rides.{IsPermittedWalk, Setting, ride_of}
use Rattle.overpass_graph.specs.Walks.{IsOpenLink}
use Rattle.track_legs.specs.Tracks.{IsTrack, node_at}
use Rattle.track_legs.specs.declared.track.Track.{Track}
use Rattle.track_reply.specs.Showable.{AreAlternativesBelow, IsShowable, terrain_shown, uncut_ride}
use Rattle.track_reply.specs.Source.{Source}
use Rattle.track_legs.specs.Sums.{total_cost, total_rank}

-- what holds with a link that isn't cut holds where none is
uncut : (passable cut : Bool) → IsTrue (passable && not cut) → IsTrue (passable && true)
uncut true cut «open» = refl
uncut false cut «open» = «open»

module _ (setting : Setting)
  where
    -- an open link is open where no link is cut
    link-uncut : (link : ℕ) → IsOpenLink (ride_of setting).roads (ride_of setting).is_open link →
        IsOpenLink (ride_of setting).roads (uncut_ride setting.terrain).is_open link
    link-uncut link is = record {
      in_range = is.in_range;
      «open» = uncut (is_passable (setting.terrain.links.facts link)) (is_cut setting.cut link) is.«open»;
    }

    -- a permitted walk is one where no link is cut and no turn is forbidden
    walk-uncut : (a b : ℕ) (walk : List ℕ) → IsPermittedWalk (ride_of setting) a b walk →
        IsPermittedWalk (uncut_ride setting.terrain) a b walk
    walk-uncut a b walk is = record {
      open_links = λ k inside. link-uncut _ (is.open_links k inside);
      leaves = is.leaves;
      arrives = is.arrives;
      goes_on = λ k inside. record {
        joins = (is.goes_on k inside).joins;
        goes_ahead = (is.goes_on k inside).goes_ahead;
        allowed = refl;
      };
      stays = is.stays;
    }

    -- a track is one where no link is cut and no turn is forbidden
    pub track-uncut : (track : Track) → IsTrack (ride_of setting) track → IsTrack (uncut_ride setting.terrain) track
    track-uncut track is = record {
      one_fewer = is.one_fewer;
      legs = λ k inside. record {
        walk = walk-uncut _ _ _ (is.legs k inside).walk;
        cost = (is.legs k inside).cost;
      };
    }

-- a track, with any links cut and turns forbidden or not, is one that a reply may show
pub track-shows : (source : Source) (cut : List Bool) (turns : Bool) (track : Track) → source.links.count ≡ length source.map.links →
    IsTrack (ride_of (record { terrain = terrain_shown source; cut = cut; turns = turns })) track →
    ((k : ℕ) → k < length track.nodes → node_at track k < length source.map.nodes) →
    AreAlternativesBelow (length source.map.links) track.earlier → total_cost track.legs < 2 ^ 127 → total_rank track.legs < 2 ^ 127 →
    IsShowable source track
track-shows source cut turns track counted is nodes earlier costs ranks = record {
  counted = counted;
  legs = track-uncut (record { terrain = terrain_shown source; cut = cut; turns = turns }) track is;
  nodes = nodes;
  earlier = earlier;
  costs = costs;
  ranks = ranks;
}
