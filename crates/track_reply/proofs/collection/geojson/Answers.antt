use Rattle.std.proofs.Common.{◌<◌, ◌^◌, ◌∙◌, List, subst, sym}
use Rattle.track_legs.specs.declared.track.Leg.{Leg}
use Rattle.track_reply.specs.Showable.{AreRowsBelow}
use Rattle.track_legs.specs.Sums.{total_cost, total_rank}
use Rattle.track_reply.proofs.ShowLemmas.{show-counted, show-links, show-rows, show-some, show-start}
use Rattle.track_reply.proofs.collection.geojson.Goals as goal

pub rows-requires : goal.rows-requires
rows-requires g c = record { in_range = show-counted _ _ c.requires.lawful }

pub total_length-requires : goal.total_length-requires
total_length-requires g c = record {
  in_range = subst (λ n. AreRowsBelow n c.as_slice.result.now) (sym c.requires.lawful.counted)
      (show-rows _ _ c.requires.lawful _ (c.as_slice.ensures.value ∙ c.in_ok-rows.ensures.exact));
}

pub append_sums-requires : goal.append_sums-requires
append_sums-requires g c = record {
  costs = subst (λ (legs : List Leg). total_cost legs < 2 ^ 127) (sym c.as_slice-2.ensures.value) c.requires.lawful.costs;
  ranks = subst (λ (legs : List Leg). total_rank legs < 2 ^ 127) (sym c.as_slice-2.ensures.value) c.requires.lawful.ranks;
}

pub append_messages-requires : goal.append_messages-requires
append_messages-requires g c = record {
  in_range = show-rows _ _ c.requires.lawful _ (c.as_slice-3.ensures.value ∙ c.in_ok-rows.ensures.exact);
  counted = c.requires.lawful.counted;
}

pub append_walks-requires : goal.append_walks-requires
append_walks-requires g c = record { legs = show-links _ _ c.requires.lawful; earlier = c.requires.lawful.earlier }

pub first_node-requires : goal.first_node-requires
first_node-requires g c = record { some = show-some _ _ c.requires.lawful }

pub append_line-requires : goal.append_line-requires
append_line-requires g c = record {
  start = show-start _ _ c.requires.lawful _ c.first_node.ensures.exact;
  in_range = show-rows _ _ c.requires.lawful _ (c.as_slice-4.ensures.value ∙ c.in_ok-rows.ensures.exact);
}
