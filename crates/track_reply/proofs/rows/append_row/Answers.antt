use Rattle.track_reply.specs.Source.{source_of}
use Rattle.track_reply.proofs.FieldLemmas.{row-written}
use Rattle.track_reply.proofs.rows.append_row.Goals as goal

pub returns : goal.returns
returns g c =
    let source = source_of c.args.shown.now.map.now c.args.shown.now.table.now c.args.shown.now.tiles.now
    (g.F.FactsOf.links c.args.shown.now.facts.now) c.args.shown.now.rates.now c.args.shown.now.name.now c.args.shown.now.alternative in
    record {
      exact = row-written c.args.style source c.args.row.now _ _ _ _ _ _ _ c.end_spot.ensures.exact c.facts-facts.ensures.value
          c.in_ok-append_place.ensures.exact c.in_ok-append_length.ensures.exact c.in_ok-append_parts.ensures.exact
          c.in_ok-append_tags.ensures.exact;
    }
