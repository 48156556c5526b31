use Rattle.std.proofs.Common.{subst, arith}
use Rattle.way_class.specs.Spending.{Spends}
use Rattle.way_class.specs.Stages.{spent_of}
use Rattle.way_class.proofs.StageLemmas.{ends-before, ends-bound, less-left}
use Rattle.way_class.proofs.binder.Binder.step.Goals as goal

pub bound-requires : goal.bound-requires
bound-requires c = record {
  whole = c.in-Ok.ensures.whole (omega (arith, c.if-left-eq0.false));
  bounded = c.in-Ok.ensures.over.parts.bounded;
  lows = c.in-Ok.ensures.over.parts.lows;
}

pub returns-in-Err-clause-steps : goal.returns-in-Err-clause-steps
returns-in-Err-clause-steps c = record { fits = omega arith; turn = record { comes_to = c.in-Err.ensures.exact; count = tt } }

pub returns-then-left-eq0-clause-steps : goal.returns-then-left-eq0-clause-steps
returns-then-left-eq0-clause-steps c = record {
  fits = omega arith;
  turn = record {
    over = c.in-Ok.ensures.over;
    same = λ end later. ends-before c.args.code.now c.args.table.now c.args.map.now c.args.tiles.now c.args.self _ end
        c.in-Ok.ensures.works.globals c.in-Ok.ensures.exact later;
    less = less-left c.args.map.now c.args.budget c.in-Ok.left c.args.self _ c.in-Ok.ensures.works c.if-left-eq0.true;
    nearer = omega (arith, c.requires.some);
  };
}

pub returns-then-left-eq0-clause-counts : goal.returns-then-left-eq0-clause-counts
returns-then-left-eq0-clause-counts c =
    subst (λ left. Spends c.args.self.weight c.args.budget left (spent_of c.args.self) (spent_of c.advance.new.self))
    c.if-left-eq0.true c.in-Ok.ensures.works.spends

pub returns-else-left-eq0-clause-steps : goal.returns-else-left-eq0-clause-steps
returns-else-left-eq0-clause-steps c = record {
  fits = omega arith;
  turn = ends-bound c.args.code.now c.args.table.now c.args.map.now c.args.tiles.now c.args.self _ c.bound.result
      c.in-Ok.ensures.works.globals c.in-Ok.ensures.exact
      (λ subject bound. c.bound.ensures.exact c.args.tiles.now subject c.in-Ok.ensures.over.parts bound)
      c.bound.ensures.count;
}
