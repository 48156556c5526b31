use Rattle.std.proofs.Common.{ap, ◌∙◌}
use Rattle.std.specs.Prelude.{is_ok}
use Rattle.profile_text.specs.Read.{profile_of}
use Rattle.made_routes.proofs.AnswerLemmas.{only-memory}
use Rattle.made_routes.proofs.HillTextLemmas.{hill-accepted}
use Rattle.made_routes.proofs.texts.hill_profile.Goals as goal

pub no_memory_for_profile-requires : goal.no_memory_for_profile-requires
no_memory_for_profile-requires c =
    record {
      only = only-memory _ _ _ (ap (λ t. is_ok (profile_of t)) c.hill_text.ensures.exact ∙ hill-accepted) c.in-Err.ensures.exact;
    }
