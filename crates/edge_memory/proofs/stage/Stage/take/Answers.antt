use Rattle.edge_memory.proofs.SetLemmas.{Set-took}
use Rattle.edge_memory.proofs.stage.Stage.take.Goals as goal

pub invariant_of-self : goal.invariant_of-self
invariant_of-self c = Set-took c.self.inside c.args.self.now c.note_taken.new.self c.args.id c.args.bytes.now c.self.invariant
    c.self.view_is c.requires.room c.note_taken.ensures.value
