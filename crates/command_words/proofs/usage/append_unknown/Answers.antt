use Rattle.command_words.specs.Help.{list_text}
use Rattle.command_words.specs.Shown.{shown}
use Rattle.command_words.specs.Usage.{unknown_text}
use Rattle.command_words.proofs.UsageLemmas.{three-are}
use Rattle.command_words.proofs.usage.append_unknown.Goals as goal

pub returns : goal.returns
unfolding unknown_text
returns c = record {
  exact = three-are c.append_list.result c.args.text.now.items (shown c.args.name.now) _ list_text c.append_shown.new.text.items
      c.append_bytes.new.text.items c.append_list.new.text.items c.in_ok-append_shown.ensures.exact c.in_ok-append_bytes.ensures.exact
      c.append_list.ensures.exact;
}
