use Rattle.std.proofs.Common.{◌∙◌, sym, arith}
use Rattle.std.proofs.lemmas.Bool.{false≢true}
use Rattle.profile_values.proofs.VarLemmas.{by_bytes-next}
use Rattle.profile_values.proofs.vars.listed.Goals as goal
use Rattle.profile_values.proofs.vars.listed.Goals.{in-Some+in_ok-name+in_ok-push, in_default}

pub entries-preserved : goal.entries-preserved
entries-preserved c =
    elim c.match-get_index.branch [
      | in-Some+in_ok-name+in_ok-push w ↦
          w.vars-is
          ∙ w.in_ok-push.ensures.value
          ∙ by_bytes-next c.args.index.now.entries c.entries.place w.in-Some.found.0.now w.in_ok-name.name w.in-Some.found.1.now
          c.entries.vars (sym w.in-Some.ensures.entry) (w.in_ok-name.ensures.value ∙ w.as_slice.ensures.value) c.entries.invariant
      | in_default w ↦ absurd (false≢true (w.in_default.ensures.found.1 (omega (arith, c.entries-test.true, c.len-place-end.ensures.len))))
    ]
