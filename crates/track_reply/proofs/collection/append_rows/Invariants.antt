use Rattle.std.proofs.Common.{◌≡◌, ◌++◌, take}
use Rattle.std.specs.List.{flat_map}
use Rattle.track_reply.specs.GeoJson.{row_array}
use Rattle.track_reply.specs.Source.{source_of}
use Rattle.track_reply.proofs.collection.append_rows.Given as goal

abbrev pub invariant-rows : goal.invariant-rows
invariant-rows g l =
    let source = source_of l.shown.map.now l.shown.table.now l.shown.tiles.now (g.F.FactsOf.links l.shown.facts.now)
    l.shown.rates.now l.shown.name.now l.shown.alternative in
    l.out.items ≡ l.fn.out.items ++ flat_map (row_array source) (take l.place l.rows)
