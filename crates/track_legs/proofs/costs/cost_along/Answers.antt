use Rattle.std.proofs.Common.{◌≡◌, ◌<◌, ◌≤◌, ◌*◌, ◌^◌, ◌∙◌, length, take, arith, ap, subst, sym, refl, IfSome, SomeIff}
use Rattle.std.proofs.Math.Seq.{take-length}
use Rattle.cost_model.specs.Walks.{walk_cost}
use Rattle.track_legs.proofs.CostLemmas.{cost-beyond, cost-more, paid-more}
use Rattle.track_legs.proofs.costs.cost_along.Goals as goal

pub returns-in_err-cost : goal.returns-in_err-cost
returns-in_err-cost g c =
    let facts = (g.F.FactsOf.links c.args.facts.now).facts in
    let walk = c.args.walk.now in
    let goes = c.go_on.ensures.along (take c.links.place walk) c.links.invariant.0.carried in
    let cost = walk_cost c.args.rates.now facts walk in
    record {
      exact = subst (λ r. SomeIff r (cost < 2 ^ 128) cost) (sym c.from_residual.ensures)
          (cost-beyond c.args.rates.now facts walk c.links.place c.links-test.true c.go_on.result.0 c.go_on.result.1
          c.go_on.ensures.link goes (2 ^ 128) c.links.cost c.price.result c.links.invariant.1 c.price.ensures.exact
          c.in_err-cost.ensures);
      found = λ few. absurd (c.in_err-cost.ensures
          (omega (arith, few, c.links-test.true, c.links.invariant.3, c.price.ensures.below)));
      below = subst (λ r. IfSome r (λ sum. sum ≤ length walk * 2 ^ 81)) (sym c.from_residual.ensures) tt;
    }

pub returns : goal.returns
returns g c =
    let facts = (g.F.FactsOf.links c.args.facts.now).facts in
    let walk = c.args.walk.now in
    let end : c.links.place ≡ length walk = omega (arith, c.links-test.false, c.links.auto.place-end) in
    let whole : take c.links.place walk ≡ walk = ap (λ n. take n walk) end ∙ take-length walk in
    let cost : walk_cost c.args.rates.now facts walk ≡ c.links.cost =
    ap (λ w. walk_cost c.args.rates.now facts w) (sym whole) ∙ c.links.invariant.1 in
    record {
      exact = (subst (λ n. n < 2 ^ 128) (sym cost) c.links.invariant.2, sym cost);
      found = λ few. refl;
      below = subst (λ n. c.links.cost ≤ n * 2 ^ 81) end c.links.invariant.3;
    }

pub links-preserved : goal.links-preserved
links-preserved g c =
    let facts = (g.F.FactsOf.links c.args.facts.now).facts in
    let walk = c.args.walk.now in
    let goes = c.go_on.ensures.along (take c.links.place walk) c.links.invariant.0.carried in
    let more = cost-more c.args.rates.now facts walk c.links.place c.links-test.true c.go_on.result.0 c.go_on.result.1 c.go_on.ensures.link goes in
    let is = c.in_ok-cost.ensures.1 in (
      paid-more c.args.rates.now facts walk c.links.place c.links-test.true c.go_on.result.0 c.go_on.result.1 c.go_on.ensures.link goes
          (g.F.FactsOf.links c.args.facts.now).count c.go_on.ensures.kept,
      omega (arith, more, c.links.invariant.1, c.price.ensures.exact, is),
      omega (arith, is, c.in_ok-cost.ensures.0),
      omega (arith, is, c.links.invariant.3, c.price.ensures.below),
    )
