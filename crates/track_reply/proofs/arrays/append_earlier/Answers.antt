use Rattle.std.proofs.Common.{◌≡◌, ◌++◌, ap, ◌∙◌, arith}
use Rattle.std.specs.List.{join_by}
use Rattle.track_reply.specs.Earlier.{walks_of}
use Rattle.track_reply.specs.GeoJson.{alternative_array, earlier_text}
use Rattle.track_reply.specs.Joined.{comma}
use Rattle.track_reply.proofs.ArrayLemmas.{joined-more}
use Rattle.track_reply.proofs.EarlierLemmas.{number-there, number-within, numbers-all}
use Rattle.track_reply.proofs.arrays.append_earlier.Goals as goal

pub alternatives-preserved : goal.alternatives-preserved
alternatives-preserved c =
    let earlier = c.args.earlier.now in
    let count = c.alternatives-count in
    joined-more (λ n. alternative_array c.args.map.now (walks_of earlier n)) _ c.alternatives.number c.alternatives.number 0
    c.args.out.now.items c.alternatives.out.items _ c.append_alternative.new.out.items
    (number-within earlier _ count.ensures.exact _ c.alternatives-test.true)
    (number-there earlier _ count.ensures.exact _ c.alternatives-test.true) c.alternatives.invariant
    c.in_ok-append_comma.ensures.exact c.in_ok-append_alternative.ensures.exact

pub returns : goal.returns
unfolding earlier_text
returns c =
    let earlier = c.args.earlier.now in
    let end : c.alternatives.number ≡ c.alternatives-count.result =
    omega (arith, c.alternatives-test.false, c.alternatives.auto.number-end) in
    record {
      exact = c.alternatives.invariant
          ∙ ap (λ ns. c.args.out.now.items ++ join_by (λ n. alternative_array c.args.map.now (walks_of earlier n)) comma ns)
          (numbers-all earlier _ c.alternatives-count.ensures.exact _ end);
    }
