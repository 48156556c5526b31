use Rattle.std.proofs.Common.{ap, ◌∙◌}
use Rattle.std.specs.Prelude.{is_ok}
use Rattle.lookup_table.specs.Table.{table_of}
use Rattle.made_routes.proofs.AnswerLemmas.{only-memory}
use Rattle.made_routes.proofs.LookTextLemmas.{look-accepted}
use Rattle.made_routes.proofs.texts.hill_table.Goals as goal

pub no_memory_for_table-requires : goal.no_memory_for_table-requires
no_memory_for_table-requires c =
    record {
      only = only-memory _ _ _ (ap (λ t. is_ok (table_of t)) c.look_text.ensures.exact ∙ look-accepted) c.in-Err.ensures.exact;
    }
