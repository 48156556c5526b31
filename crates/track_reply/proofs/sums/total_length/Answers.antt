use Rattle.track_reply.proofs.BelowLemmas.{row-below}
use Rattle.track_reply.proofs.sums.total_length.Goals as goal

pub length_of-sum-requires : goal.length_of-sum-requires
length_of-sum-requires g c = record {
  in_range = row-below (g.F.FactsOf.links c.args.facts.now).count c.args.rows.now c.rows.place c.row_at.result c.requires.in_range
      c.rows-test.true c.row_at.ensures.exact;
}
