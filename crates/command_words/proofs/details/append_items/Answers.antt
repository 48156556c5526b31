use Rattle.std.proofs.Common.{refl}
use Rattle.command_words.specs.Help.{item_text, items_text}
use Rattle.command_words.proofs.HelpLemmas.{texts-next}
use Rattle.command_words.proofs.details.append_items.Goals as goal

pub commands-preserved : goal.commands-preserved
commands-preserved c =
    texts-next item_text items_text (λ command commands. refl) _ c.commands.text.items c.append_item.new.text.items c.args.commands.now
    c.commands.command-index _ c.commands-test.true c.commands.invariant c.in_ok-append_item.ensures.exact
