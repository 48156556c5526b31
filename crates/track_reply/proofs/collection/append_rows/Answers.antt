use Rattle.std.proofs.Common.{◌<◌, length, subst, sym}
use Rattle.track_reply.specs.GeoJson.{row_array}
use Rattle.track_reply.specs.Source.{source_of}
use Rattle.track_reply.proofs.BelowLemmas.{row-below}
use Rattle.track_reply.proofs.JoinLemmas.{texts-more}
use Rattle.track_reply.proofs.collection.append_rows.Goals as goal

pub append_array-requires : goal.append_array-requires
append_array-requires g c =
    let below = row-below (length c.args.shown.now.map.now.links) c.args.rows.now c.rows.place c.row_at.result c.requires.in_range
    c.rows-test.true c.row_at.ensures.exact in
    record { in_range = below; counted = subst (λ n. c.row_at.result.link < n) (sym c.requires.counted) below }

pub rows-preserved : goal.rows-preserved
rows-preserved g c =
    let source = source_of c.args.shown.now.map.now c.args.shown.now.table.now c.args.shown.now.tiles.now
    (g.F.FactsOf.links c.args.shown.now.facts.now) c.args.shown.now.rates.now c.args.shown.now.name.now c.args.shown.now.alternative in
    texts-more (row_array source) c.args.rows.now c.rows.place c.row_at.result _ c.args.out.now.items c.rows.out.items
    c.append_array.new.out.items c.rows-test.true c.row_at.ensures.exact c.rows.invariant c.in_ok-append_array.ensures.exact
