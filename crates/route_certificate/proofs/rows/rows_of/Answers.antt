use Rattle.std.proofs.lemmas.Option.{slice_get-get_or}
use Rattle.route_certificate.proofs.EntryLemmas.{no_entry}
use Rattle.route_certificate.proofs.IndexLemmas.{placed-more, placed-row}
use Rattle.route_certificate.proofs.rows.rows_of.Goals as goal

pub row_of-requires : goal.row_of-requires
row_of-requires g c = record {
  one = c.requires.bounded c.entries.place _
      (slice_get-get_or c.args.entries.now c.entries.place no_entry c.entries-test.true);
}

pub entries-preserved : goal.entries-preserved
entries-preserved g c =
    placed-more _ c.args.entries.now c.entries.place c.entries.rows.items _ c.row_of.result c.entries.invariant
    (placed-row _ c.args.entries.now c.entries.place _ c.row_of.result
    (slice_get-get_or c.args.entries.now c.entries.place no_entry c.entries-test.true) c.row_of.ensures.place
    c.row_of.ensures.row)
    c.row_of.ensures.place c.in_ok-push.ensures.items
