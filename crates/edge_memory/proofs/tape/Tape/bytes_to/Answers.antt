use Rattle.std.proofs.Common.{◌≡◌, ◌++◌, length, List, ℕ, sym, ap, ◌∙◌, arith, subst, append-nil}
use Rattle.edge_io.specs.Acts.{no_traffic, told}
use Rattle.edge_memory.specs.Tape.{Tape}
use Rattle.edge_memory.proofs.TapeLemmas.{within-at, sent-after, sent-end}
use Rattle.edge_memory.proofs.tape.Tape.bytes_to.Goals as goal

pub taken_for-taken-requires : goal.taken_for-taken-requires
taken_for-taken-requires c = record {
  within = rw (c.as_slice.ensures.value, c.as_slice-note-items.ensures.value) (within-at _ _ _ _ c.self.invariant.within (omega arith));
}

pub returns : goal.returns
returns c = record {
  exact = subst (λ (tape : Tape). c.notes.bytes.items ≡ (told c.args.id tape.acts).sent) c.self.view_is
      (sym (sent-after _ c.self.inside.script.items c.self.inside.kept.items c.self.inside.notes.items no_traffic
      ∙ c.notes.invariant.rest
      ∙ ap (λ (xs : List ℕ). c.notes.bytes.items ++ xs)
      (sent-end c.args.id c.self.inside.kept.items c.self.inside.notes.items c.notes.note-index
      (omega (arith, ap length c.as_slice-note-items.ensures.value)))
      ∙ append-nil _));
}
