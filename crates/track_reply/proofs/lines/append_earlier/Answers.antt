use Rattle.std.proofs.Common.{◌≡◌, ◌++◌, ap, ◌∙◌, arith}
use Rattle.std.specs.List.{flat_map}
use Rattle.track_reply.specs.Csv.{alternative_lines, earlier_lines}
use Rattle.track_reply.specs.Earlier.{walks_of}
use Rattle.track_reply.proofs.EarlierLemmas.{number-there, number-within, numbers-all}
use Rattle.track_reply.proofs.JoinLemmas.{texts-more}
use Rattle.track_reply.proofs.lines.append_earlier.Goals as goal

pub alternatives-preserved : goal.alternatives-preserved
alternatives-preserved c =
    let earlier = c.args.earlier.now in
    let count = c.alternatives-count in
    texts-more (λ n. alternative_lines c.args.map.now n (walks_of earlier n)) _ c.alternatives.number c.alternatives.number 0
    c.args.out.now.items c.alternatives.out.items c.append_alternative.new.out.items
    (number-within earlier _ count.ensures.exact _ c.alternatives-test.true)
    (number-there earlier _ count.ensures.exact _ c.alternatives-test.true) c.alternatives.invariant
    c.in_ok-append_alternative.ensures.exact

pub returns : goal.returns
unfolding earlier_lines
returns c =
    let earlier = c.args.earlier.now in
    let end : c.alternatives.number ≡ c.alternatives-count.result =
    omega (arith, c.alternatives-test.false, c.alternatives.auto.number-end) in
    record {
      exact = c.alternatives.invariant
          ∙ ap (λ ns. c.args.out.now.items ++ flat_map (λ n. alternative_lines c.args.map.now n (walks_of earlier n)) ns)
          (numbers-all earlier _ c.alternatives-count.ensures.exact _ end);
    }
