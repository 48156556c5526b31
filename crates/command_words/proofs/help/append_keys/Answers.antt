use Rattle.std.proofs.Common.{refl}
use Rattle.command_words.specs.Help.{key_text, keys_text}
use Rattle.command_words.proofs.HelpLemmas.{texts-next}
use Rattle.command_words.proofs.help.append_keys.Goals as goal

pub rows-preserved : goal.rows-preserved
rows-preserved c =
    texts-next key_text keys_text (λ row rows. refl) _ c.rows.text.items c.append_key.new.text.items c.args.rows.now c.rows.row-index
    _ c.rows-test.true c.rows.invariant c.in_ok-append_key.ensures.exact
