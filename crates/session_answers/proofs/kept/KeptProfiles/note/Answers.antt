use Rattle.std.proofs.Common.{subst, sym}
use Rattle.session_answers.proofs.MakingLemmas.{turned-made}
use Rattle.session_answers.specs.Kept.{IsMadeFrom}
use Rattle.session_answers.proofs.kept.KeptProfiles.note.Goals as goal

pub returns-in-Ok-key-clause-kept : goal.returns-in-Ok-key-clause-kept
returns-in-Ok-key-clause-kept c = λ world stored making there gives kept.
    let key = c.in-Ok-key.ensures.exact making there in
    let from = kept.makings c.args.k making there in
    c.keep.ensures.kept world stored kept
    (subst (λ k. IsMadeFrom world stored k c.in-Ok.ready.value) (sym key)
    (turned-made world stored making c.args.came.now c.in-Ok.ready from gives c.in-Ok.is))
