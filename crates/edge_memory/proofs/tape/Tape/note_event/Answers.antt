use Rattle.edge_memory.proofs.TapeLemmas.{within-more}
use Rattle.edge_memory.proofs.tape.Tape.note_event.Goals as goal

pub invariant_of-self : goal.invariant_of-self
invariant_of-self c = record {
  within = rw c.push_reserved.ensures.items (within-more _ _ _ c.self.invariant.within tt);
}
