use Rattle.std.proofs.Common.{sym, ◌∙◌}
use Rattle.edge_memory.proofs.SetLemmas.{Set-closed}
use Rattle.edge_memory.proofs.stage.Stage.close.Goals as goal

pub invariant_of-self : goal.invariant_of-self
invariant_of-self c = Set-closed c.self.inside c.note_closed.new.self c.args.id c.take_out.new.ids c.push_reserved.new.self c.self.invariant
    (rw (← c.deref.ensures.value) (sym c.contains.ensures.value ∙ c.if-contains.true)) c.note_closed.ensures.value
    c.take_out.ensures.exact c.take_out.ensures.capacity c.take_out.new.ids.ok.0 c.self.inside.live.ok.0 c.push_reserved.ensures.items
    c.push_reserved.ensures.len c.push_reserved.ensures.capacity
