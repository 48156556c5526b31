-- What is known of a track that a reply may show.
use Rattle.std.proofs.Common.{◌≡◌, ℕ, ◌<◌, List, length, sym, subst, arith}
use Rattle.track_legs.specs.Rows.{HasLinksBelow, rows_of}
use Rattle.track_legs.specs.Tracks.{node_at}
use Rattle.track_legs.specs.declared.row.Row.{Row}
use Rattle.track_legs.specs.declared.track.Track.{Track}
use Rattle.track_legs.proofs.CallerLemmas.{track-links}
use Rattle.track_reply.specs.Showable.{AreRowsBelow, IsShowable, terrain_shown, uncut_ride}
use Rattle.track_reply.specs.Source.{Source}
use Rattle.track_reply.proofs.BelowLemmas.{legs-rows}

module _ (source : Source) (track : Track) (is : IsShowable source track)
  where
    -- the links of its legs are the map's
    pub show-links : HasLinksBelow (length source.map.links) track
    show-links = track-links (uncut_ride (terrain_shown source)) track is.legs

    -- so are they links that have facts
    pub show-counted : HasLinksBelow source.links.count track
    show-counted = subst (λ n. HasLinksBelow n track) (sym is.counted) show-links

    -- so are those of its rows
    pub show-rows : (rows : List Row) → rows ≡ rows_of source.prices source.links.facts track → AreRowsBelow (length source.map.links) rows
    show-rows rows same =
        subst (λ (rs : List Row). AreRowsBelow (length source.map.links) rs) (sym same)
        (legs-rows (length source.map.links) source.prices source.links.facts track.legs show-links)

    -- it has a node
    pub show-some : 0 < length track.nodes
    show-some = omega (arith, is.legs.one_fewer)

    -- the node that it begins at is the map's
    pub show-start : (start : ℕ) → start ≡ node_at track 0 → start < length source.map.nodes
    show-start start same = subst (λ n. n < length source.map.nodes) (sym same) (is.nodes 0 show-some)
