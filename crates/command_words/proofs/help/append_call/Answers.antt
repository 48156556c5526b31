use Rattle.std.proofs.Common.{◌∙◌}
use Rattle.command_words.specs.Help.{call_text}
use Rattle.command_words.specs.Rows.{command_name}
use Rattle.command_words.proofs.HelpLemmas.{call-is}
use Rattle.command_words.proofs.help.append_call.Goals as goal

pub returns : goal.returns
unfolding call_text
returns c = record {
  exact = call-is c.args.text.now.items _ (command_name c.args.command) _ c.append_bytes.new.text.items c.append_bytes-2.new.text.items
      c.append_keys.new.text.items c.as_bytes.result.now c.keys.result.now
      (c.as_bytes.ensures.value ∙ c.name.ensures.exact) c.keys.ensures.exact c.in_ok-append_bytes.ensures.exact
      c.in_ok-append_bytes-2.ensures.exact c.in_ok-append_keys.ensures.exact;
}
