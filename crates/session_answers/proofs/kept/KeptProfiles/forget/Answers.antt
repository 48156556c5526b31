use Rattle.std.proofs.Common.{refl}
use Rattle.session_answers.proofs.MakingLemmas.{dropped-kept}
use Rattle.session_answers.specs.declared.kept.KeptProfiles.{KeptProfiles}
use Rattle.session_answers.proofs.kept.KeptProfiles.forget.Goals as goal

pub returns-clause-kept : goal.returns-clause-kept
returns-clause-kept c = λ world stored kept.
    let new : KeptProfiles = record { cache = c.args.self.now.cache; makings = c.forget.new.self; guides = c.args.self.now.guides } in
    dropped-kept world stored c.args.self.now new c.args.k c.forget.ensures.dropped refl refl kept
