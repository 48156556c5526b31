use Rattle.std.proofs.Common.{◌++◌, length, ap, ◌∙◌}
use Rattle.hgt_tiles.specs.Tiles.{height_of}
use Rattle.track_legs.specs.declared.row.Row.{Row}
use Rattle.track_reply.specs.GeoJson.{next_position}
use Rattle.track_reply.specs.Source.{end_spot}
use Rattle.track_reply.proofs.BelowLemmas.{row-below}
use Rattle.track_reply.proofs.JoinLemmas.{texts-more}
use Rattle.track_reply.proofs.positions.append_ends.Goals as goal

pub end_spot-requires : goal.end_spot-requires
end_spot-requires c = record {
  in_range = row-below (length c.args.map.now.links) c.args.rows.now c.rows.place c.row_at.result c.requires.in_range
      c.rows-test.true c.row_at.ensures.exact;
}

pub rows-preserved : goal.rows-preserved
rows-preserved c =
    texts-more (λ (row : Row). next_position (height_of c.args.tiles.now) (end_spot c.args.map.now row.link)) c.args.rows.now
    c.rows.place c.row_at.result _ c.args.out.now.items c.rows.out.items c.append_next.new.out.items c.rows-test.true
    c.row_at.ensures.exact c.rows.invariant
    (c.in_ok-append_next.ensures.exact
    ∙ ap (λ at. c.rows.out.items ++ next_position (height_of c.args.tiles.now) at) c.end_spot.ensures.exact)
