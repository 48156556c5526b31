use Rattle.std.proofs.Common.{◌∙◌, List, ℕ, subst}
use Rattle.run_files.proofs.NoteLemmas.{front-of_broken}
use Rattle.run_files.specs.Notes.{HasFront}
use Rattle.run_files.proofs.notes.written.Goals as goal

pub returns-in-Ok : goal.returns-in-Ok
returns-in-Ok g c = record {
  whole = λ text is.
      let old = g.N.Sink.seen c.args.sink.now in
      let new = g.N.Sink.seen c.send_all.new.out in
      subst (λ (l : List ℕ). HasFront l old new) (c.as_slice.ensures.value ∙ rw c.in-Ok.is at is)
      (front-of_broken c.as_slice.result.now old new c.in-Err-send_all.ensures.kept);
}
