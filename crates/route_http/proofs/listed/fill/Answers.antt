use Rattle.std.proofs.Common.{map, arith, rules}
use Rattle.std.proofs.lemmas.Bool.Decides.{nat_tests}
use Rattle.std.proofs.lemmas.Grind.{common_steps}
use Rattle.std.proofs.lemmas.Result.{err_from_is_err_and}
use Rattle.route_http.proofs.PartLemmas.{Fills-refused, Fills-last, Fills-more}
use Rattle.route_http.proofs.listed.fill.Goals as goal

pub returns-in_err-take : goal.returns-in_err-take
returns-in_err-take g c =
    let p = err_from_is_err_and c.from_residual.result c.from_residual.ensures.1 in
    record {
      exact = rw (p.1, p.2)
          (Fills-refused g.T.Listed.read c.args.mark c.args.key c.args.most _ _ c.items.rest.now c.at_mark.result.0.now c.at_mark.result.1.now
          c.items.invariant c.at_mark.ensures.value _ c.in_err-take.ensures.exact);
    }

pub returns-then-is_empty : goal.returns-then-is_empty
returns-then-is_empty g c =
    record {
      exact = Fills-last g.T.Listed.read c.args.mark c.args.key c.args.most _ _ c.items.rest.now c.at_mark.result.0.now c.at_mark.result.1.now
          c.items.invariant c.at_mark.ensures.value
          (map g.T.Listed.seen c.take.new.items) c.in_ok-take.ensures.exact
          (first_of (search rules, grind (arith, common_steps), grind (arith, nat_tests), omega (arith, nat_tests)));
    }

pub items-preserved : goal.items-preserved
items-preserved g c =
    let back = c.split_at.ensures.back in
    rw back
    (Fills-more g.T.Listed.read c.args.mark c.args.key c.args.most _ _ c.items.rest.now c.at_mark.result.0.now c.at_mark.result.1.now
    c.items.invariant c.at_mark.ensures.value
    (map g.T.Listed.seen c.take.new.items) c.in_ok-take.ensures.exact (omega arith))
