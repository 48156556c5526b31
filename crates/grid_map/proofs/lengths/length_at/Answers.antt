use Rattle.std.proofs.Common.{refl, sym, ◌∙◌}
use Rattle.grid_map.proofs.ListLemmas.{length_list-at, segment-not_long}
use Rattle.grid_map.proofs.lengths.length_at.Goals as goal

pub unreachable-requires : goal.unreachable-requires
unreachable-requires c =
    segment-not_long _ _ _ _ _ c.segment-segment.ensures.lawful.some_width c.segment-segment.ensures.exact
    (record { first = c.spot.ensures.exact; second = c.spot-2.ensures.exact })
    (c.in-None.ensures.refused.0 refl)

pub returns : goal.returns
returns c = record {
  exact = length_list-at _ _ _ _ _ c.in-Some.found _ c.segment-segment.ensures.exact
      (record { first = c.spot.ensures.exact; second = c.spot-2.ensures.exact })
      (sym c.in-Some.is ∙ c.arrow.ensures.exact) c.from.ensures;
}
