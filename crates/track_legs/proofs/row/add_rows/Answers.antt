use Rattle.std.proofs.Common.{take}
use Rattle.track_legs.proofs.CostLemmas.{paid-more, parts-there}
use Rattle.track_legs.proofs.RowLemmas.{rows-more}
use Rattle.track_legs.proofs.row.add_rows.Goals as goal

pub links-preserved : goal.links-preserved
links-preserved g c =
    let prices = c.args.rates.now in
    let links = g.F.FactsOf.links c.args.facts.now in
    let walk = c.args.walk.now in
    let carry = c.go_on.result.0 in
    let parts = c.go_on.result.1 in
    let goes = c.go_on.ensures.along (take c.links.place walk) c.links.invariant.0.carried in (
      paid-more prices links.facts walk c.links.place c.links-test.true carry parts c.go_on.ensures.link goes
          links.count c.go_on.ensures.kept,
      rows-more prices links.facts walk c.links.place parts c.args.rows.now c.links.rows c.push.new.self
          (parts-there prices links.facts walk c.links.place c.links-test.true carry parts c.go_on.ensures.link goes)
          c.links.invariant.1 c.in_ok-push.ensures.value,
    )
