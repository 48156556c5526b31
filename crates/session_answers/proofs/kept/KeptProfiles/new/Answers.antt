use Rattle.std.proofs.Common.{sym, ap, subst}
use Rattle.session_answers.proofs.GuideLemmas.{none-made}
use Rattle.session_answers.proofs.KeptLemmas.{AllMade, made-none}
use Rattle.session_answers.proofs.MakingLemmas.{none-stands}
use Rattle.session_answers.proofs.OnceLemmas.{once-none}
use Rattle.session_answers.proofs.kept.KeptProfiles.new.Goals as goal

pub returns : goal.returns
returns c = record {
  kept = λ world stored. record {
    made = subst (AllMade world stored) (sym (ap (λ cache. cache.entries) c.in_ok-cache.ensures)) (made-none world stored);
    makings = λ k making there. none-stands _ k making c.new-3.ensures.none there;
    once = once-none _ c.new-3.ensures.none;
    guides = none-made world stored _ c.new-4.ensures.none c.new-4.ensures.hierarchy;
  };
}
