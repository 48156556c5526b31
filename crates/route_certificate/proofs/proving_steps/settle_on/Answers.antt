use Rattle.std.proofs.Common.{◌+◌, ap, length, subst, arith}
use Rattle.item_list.specs.Turns.{Settles}
use Rattle.space_search.specs.View.{view}
use Rattle.space_search.proofs.CallerLemmas.{kept-grow}
use Rattle.route_certificate.proofs.ProvingLemmas.{settling-done, settling-shown}
use Rattle.route_certificate.proofs.proving_steps.settle_on.Goals as goal

pub overflow_sub-settled : goal.overflow_sub-settled
overflow_sub-settled g c =
    let grow = kept-grow (view c.args.search).settled (view c.turn.new.self).settled c.in_ok-turn.ensures.kept.kept in
    omega (arith, grow, c.labels-before.ensures.value, c.labels.ensures.value)

pub returns-in_ok-told-in-Done : goal.returns-in_ok-told-in-Done
returns-in_ok-told-in-Done g c = record {
  steps = λ bound leg most is.
      let terrain = g.G.TerrainOf.terrain c.args.terrain in
      let space = c.wake-space.result in
      let seen = g.G.TerrainOf.terrain space.terrain in
      let its = ap g.G.TerrainOf.terrain c.wake-space.ensures.terrain in
      let turn = c.in_ok-turn.ensures in
      let old = (view c.args.search).settled in
      let new = (view c.turn.new.self).settled in
      let grow = kept-grow old new turn.kept.kept in
      let fewer = subst (Settles (length old + c.args.quota) (length new)) c.in-Done.is turn.counts in
      let end = c.in_ok-told-in-Done.field-0 in
      let shown = settling-shown terrain seen bound leg most c.args.quota c.args.kept space.kept c.args.search c.args.limit c.args.counted
      its c.wake-space.ensures.kept is c.turn.new.self end turn.kept.limit c.in_ok-told-in-Done.ensures.exact in
      settling-done terrain seen bound leg most c.args.quota c.args.kept space.kept c.args.search c.args.limit c.args.counted its
      c.wake-space.ensures.kept is c.turn.new.self _ turn.of turn.kept.limit
      (omega (arith, grow, c.labels-before.ensures.value, c.labels.ensures.value)) end shown
      (omega (arith, grow, fewer, c.labels-before.ensures.value, c.labels.ensures.value));
}
