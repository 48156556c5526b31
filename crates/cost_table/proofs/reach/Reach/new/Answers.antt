use Rattle.std.proofs.Common.{ap, length, sym, refl, arith}
use Rattle.bike_space.specs.Tasks.{rules_of}
use Rattle.cost_table.specs.Endless.{endless}
use Rattle.cost_table.proofs.reach.Reach.new.Goals as goal

pub returns-clause-on : goal.returns-clause-on
returns-clause-on c = λ task same. record {
  of = c.new.ensures.of (endless (rules_of task));
  from = sym same;
  within = omega arith;
  stands = (c.new-2.ensures.none, c.new.ensures.none, refl);
}
