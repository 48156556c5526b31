use Rattle.std.proofs.Common.{◌∙◌}
use Rattle.track_reply.proofs.MillionthLemmas.{rest-some, sum-appended}
use Rattle.track_reply.proofs.numbers.append_sum.Goals as goal

pub slice_bounds-extend_from_slice-count : goal.slice_bounds-extend_from_slice-count
slice_bounds-extend_from_slice-count c =
    rest-some c.as_slice.result.now c.args.millionths (c.as_slice.ensures.value ∙ c.of-decimals.ensures.value)

pub slice_bounds-extend_from_slice-start : goal.slice_bounds-extend_from_slice-start
slice_bounds-extend_from_slice-start c =
    rest-some c.as_slice.result.now c.args.millionths (c.as_slice.ensures.value ∙ c.of-decimals.ensures.value)

pub returns : goal.returns
returns c =
    record {
      exact = sum-appended c.extend_from_slice.result c.args.out.now.items _ _ c.as_slice.result.now c.args.millionths
          c.in_ok-append_wide.ensures.exact (c.as_slice.ensures.value ∙ c.of-decimals.ensures.value) c.extend_from_slice.ensures.items;
    }
