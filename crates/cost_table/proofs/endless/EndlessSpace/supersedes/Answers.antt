use Rattle.cost_table.proofs.EndlessLemmas.{endless-supersedes}
use Rattle.cost_table.proofs.endless.EndlessSpace.supersedes.Goals as goal

pub returns : goal.returns
returns g c = record {
  sound = λ h.
      endless-supersedes (g.S.Space.rules c.args.self.now.space.now) c.args.a.now c.args.ca c.args.b.now c.args.cb
      (c.supersedes.ensures.by_cost h);
  by_cost = λ h. c.supersedes.ensures.by_cost h;
}
