use Rattle.std.proofs.Common.{refl}
use Rattle.overpass_graph.specs.Maps.{roads_of}
use Rattle.least_sums.specs.States.{state_of}
use Rattle.least_sums.specs.declared.amount.TheConstants.{WIDE_FAR}
use Rattle.least_sums.proofs.FoundLemmas.{ended-whole}
use Rattle.least_sums.proofs.stepping.finish_wide.Goals as goal

pub returns : goal.returns
returns g c =
    let roads = roads_of c.args.map.now in
    let prices = (g.P.LinkPrices.priced c.args.prices.now).price in
    let target = c.args.course.target in
    let taken = c.in_ok-take_all.ensures in
    let final =
    ended-whole roads prices target WIDE_FAR (λ n. n) c.in_ok-take_all.field-0 (state_of (λ n. n) c.take_all.new.board)
    (taken.whole refl) taken.ends in
    let end = c.wide_end.ensures in
    record {
      found = record { exact = end.exact roads prices target final; small = end.small; whole = λ all. end.whole };
    }
