use Rattle.std.proofs.Common.{subst}
use Rattle.overpass_graph.specs.Maps.{roads_of}
use Rattle.least_sums.specs.Findings.{Takes}
use Rattle.least_sums.specs.States.{state_of}
use Rattle.least_sums.specs.declared.amount.TheConstants.{WIDE_FAR}
use Rattle.least_sums.proofs.FoundLemmas.{ended-whole}
use Rattle.least_sums.proofs.stepping.step_wide.Goals as goal

pub returns-in-Ended : goal.returns-in-Ended
returns-in-Ended g c =
    let roads = roads_of c.args.map.now in
    let prices = (g.P.LinkPrices.priced c.args.prices.now).price in
    let target = c.args.course.target in
    let board = c.take.new.board in
    let ended =
    subst (Takes roads prices target WIDE_FAR (λ n. n) c.args.course.near (state_of (λ n. n) c.args.board) (state_of (λ n. n) board))
    c.in-Ended.is c.in_ok-near.ensures.takes in
    let final =
    ended-whole roads prices target WIDE_FAR (λ n. n) c.in-Ended.field-0 (state_of (λ n. n) board) (ended.1 c.requires.all) ended.0 in
    let end = c.wide_end.ensures in
    record {
      steps = record { exact = end.exact roads prices target final; small = end.small; whole = λ all. end.whole };
    }
