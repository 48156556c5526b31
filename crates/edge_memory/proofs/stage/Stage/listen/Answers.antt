use Rattle.edge_memory.proofs.SetLemmas.{Set-listens}
use Rattle.edge_memory.proofs.stage.Stage.listen.Goals as goal

pub invariant_of-self : goal.invariant_of-self
invariant_of-self c = Set-listens c.self.inside c.args.self.now c.note_listening.new.self c.args.address.now c.args.hangup c.self.invariant
    c.self.view_is c.requires.room c.note_listening.ensures.value
