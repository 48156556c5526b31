use Rattle.cost_table.proofs.EndlessLemmas.{endless-laws}
use Rattle.cost_table.proofs.endless.Endless.new.Goals as goal

pub invariant_of-result : goal.invariant_of-result
invariant_of-result g c = record {
  keeps = endless-laws (g.S.Space.rules c.args.space.now) (g.met.S.Space.keeps_laws c.args.space.now);
}
