use Rattle.std.proofs.Common.{refl}
use Rattle.command_words.specs.Help.{command_text, commands_text}
use Rattle.command_words.proofs.HelpLemmas.{texts-next}
use Rattle.command_words.proofs.help.append_commands.Goals as goal

pub commands-preserved : goal.commands-preserved
commands-preserved c =
    texts-next command_text commands_text (λ command commands. refl) _ c.commands.text.items c.append_command.new.text.items
    c.args.commands.now c.commands.command-index _ c.commands-test.true c.commands.invariant c.in_ok-append_command.ensures.exact
