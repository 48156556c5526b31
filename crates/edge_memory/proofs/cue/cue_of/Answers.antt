use Rattle.std.proofs.Common.{sym, subst}
use Rattle.edge_memory.specs.Place.{IsCue}
use Rattle.edge_memory.specs.declared.script.Script.{Script}
use Rattle.edge_memory.proofs.cue.cue_of.Goals as goal

pub returns-in-AwaitClosed : goal.returns-in-AwaitClosed
returns-in-AwaitClosed c = record {
  exact = subst (λ (entry : Script). IsCue entry c.args.used c.args.most c.waiting.result) (sym c.in-AwaitClosed.is)
      (c.waiting.ensures.exact c.in-AwaitClosed.id c.args.most);
}
