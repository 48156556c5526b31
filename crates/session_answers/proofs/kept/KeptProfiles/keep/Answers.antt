use Rattle.std.proofs.Common.{◌∙◌, ap, refl, sym, subst}
use Rattle.session_answers.specs.Kept.{IsMadeFrom}
use Rattle.session_answers.specs.Makings.{Shared}
use Rattle.session_answers.proofs.KeptLemmas.{made-after}
use Rattle.session_answers.proofs.KeyLemmas.{key-same}
use Rattle.session_answers.proofs.kept.KeptProfiles.keep.Goals as goal

pub returns-in-Ok : goal.returns-in-Ok
returns-in-Ok c = record {
  kept = λ world stored kept made. record {
    made = made-after world stored _ key-same c.put.result c.args.self.now.cache c.put.new.self c.args.key c.new.result
        c.put.ensures.entries c.put.ensures.err kept.made
        (subst (IsMadeFrom world stored c.args.key) (sym (ap (λ (shared : Shared). shared.value) c.new.ensures.ready ∙ c.in-Ok.ensures.cases)) made);
    makings = kept.makings;
    once = kept.once;
    guides = kept.guides;
  };
  makings = refl;
}
