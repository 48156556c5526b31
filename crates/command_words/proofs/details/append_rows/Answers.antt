use Rattle.std.proofs.Common.{refl}
use Rattle.command_words.specs.Help.{detail_text, details_text}
use Rattle.command_words.proofs.HelpLemmas.{texts-next}
use Rattle.command_words.proofs.details.append_rows.Goals as goal

pub rows-preserved : goal.rows-preserved
rows-preserved c =
    texts-next detail_text details_text (λ row rows. refl) _ c.rows.text.items c.append_detail.new.text.items c.args.rows.now c.rows.row-index
    _ c.rows-test.true c.rows.invariant c.in_ok-append_detail.ensures.exact
