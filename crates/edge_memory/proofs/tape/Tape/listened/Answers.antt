use Rattle.std.proofs.Common.{◌≡◌, ◌++◌, length, List, ℕ, sym, ap, ◌∙◌, arith, subst, append-nil}
use Rattle.edge_memory.specs.MemoryHub.{listened}
use Rattle.edge_memory.specs.Tape.{Tape}
use Rattle.edge_memory.proofs.TapeLemmas.{within-at, listened-all, listened-end}
use Rattle.edge_memory.proofs.tape.Tape.listened.Goals as goal

pub append_listened-requires : goal.append_listened-requires
append_listened-requires c = record {
  within = rw (c.as_slice.ensures.value, c.as_slice-note-items.ensures.value) (within-at _ _ _ _ c.self.invariant.within (omega arith));
}

pub returns : goal.returns
returns c = record {
  exact = subst (λ (tape : Tape). c.notes.lines.items ≡ listened tape.acts) c.self.view_is
      (sym (listened-all c.self.inside.script.items c.self.inside.kept.items c.self.inside.notes.items
      ∙ c.notes.invariant.rest
      ∙ ap (λ (xs : List ℕ). c.notes.lines.items ++ xs)
      (listened-end c.self.inside.kept.items c.self.inside.notes.items c.notes.note-index
      (omega (arith, ap length c.as_slice-note-items.ensures.value)))
      ∙ append-nil _));
}
