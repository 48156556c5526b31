use Rattle.track_legs.proofs.RowLemmas.{leg-below, legs-more}
use Rattle.track_legs.proofs.row.rows.Goals as goal

pub add_rows-requires : goal.add_rows-requires
add_rows-requires g c = record {
  in_range = leg-below _ c.args.track.now c.as_slice-legs.result.now c.legs.place c.index-legs-place.result
      c.as_slice.result.now c.requires.in_range c.as_slice-legs.ensures.value c.legs-test.true c.as_slice.ensures.value;
}

pub legs-preserved : goal.legs-preserved
legs-preserved g c =
    legs-more c.args.rates.now (g.F.FactsOf.links c.args.facts.now).facts c.args.track.now c.as_slice-legs.result.now
    c.legs.place
    c.index-legs-place.result c.as_slice.result.now c.legs.rows c.add_rows.new.rows c.as_slice-legs.ensures.value
    c.legs-test.true
    c.as_slice.ensures.value c.legs.invariant c.in_ok-add_rows.ensures.added
