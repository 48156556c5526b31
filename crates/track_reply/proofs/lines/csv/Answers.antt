use Rattle.std.proofs.Common.{◌<◌, ◌^◌, ◌∙◌, List, length, subst, sym}
use Rattle.track_legs.specs.declared.track.Leg.{Leg}
use Rattle.track_reply.specs.Showable.{AreAlternativesBelow, AreLegsBelow}
use Rattle.track_legs.specs.Sums.{total_cost, total_rank}
use Rattle.track_reply.proofs.ShowLemmas.{show-counted, show-links, show-rows}
use Rattle.track_reply.proofs.lines.csv.Goals as goal

pub rows-requires : goal.rows-requires
rows-requires g c = record { in_range = show-counted _ _ c.requires.lawful }

pub append_rows-requires : goal.append_rows-requires
append_rows-requires g c = record {
  in_range = show-rows _ _ c.requires.lawful _ (c.as_slice.ensures.value ∙ c.in_ok-rows.ensures.exact);
  counted = c.requires.lawful.counted;
}

pub append_sums-requires : goal.append_sums-requires
append_sums-requires g c = record {
  costs = subst (λ (legs : List Leg). total_cost legs < 2 ^ 127) (sym c.as_slice-2.ensures.value) c.requires.lawful.costs;
  ranks = subst (λ (legs : List Leg). total_rank legs < 2 ^ 127) (sym c.as_slice-2.ensures.value) c.requires.lawful.ranks;
}

pub append_legs-requires : goal.append_legs-requires
append_legs-requires g c = record {
  in_range = subst (λ legs. AreLegsBelow (length c.args.shown.now.map.now.links) legs) (sym c.as_slice-3.ensures.value)
      (show-links _ _ c.requires.lawful);
}

pub append_earlier-requires : goal.append_earlier-requires
append_earlier-requires g c = record {
  in_range = subst (λ earlier. AreAlternativesBelow (length c.args.shown.now.map.now.links) earlier) (sym c.as_slice-4.ensures.value)
      c.requires.lawful.earlier;
}
