use Rattle.std.proofs.Common.{sym, ◌∙◌}
use Rattle.edge_memory.proofs.SetLemmas.{Set-broke}
use Rattle.edge_memory.proofs.stage.Stage.break_off.Goals as goal

pub invariant_of-self : goal.invariant_of-self
invariant_of-self c = Set-broke c.self.inside c.note_broken.new.self c.args.id c.take_out.new.ids c.self.invariant
    (rw (← c.deref.ensures.value) (sym c.contains-held.ensures.value ∙ c.if-held.true)) c.note_broken.ensures.value
    c.take_out.ensures.exact c.take_out.ensures.capacity c.take_out.new.ids.ok.0 c.self.inside.live.ok.0
