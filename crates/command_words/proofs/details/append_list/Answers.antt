use Rattle.command_words.specs.Help.{items_text}
use Rattle.command_words.specs.Rows.{commands}
use Rattle.command_words.proofs.UsageLemmas.{three-are}
use Rattle.command_words.proofs.details.append_list.Goals as goal

pub returns : goal.returns
returns c = record {
  exact = three-are c.append_bytes-2.result c.args.text.now.items _ (items_text commands) _ c.append_bytes.new.text.items
      c.append_items.new.text.items c.append_bytes-2.new.text.items c.in_ok-append_bytes.ensures.exact c.in_ok-append_items.ensures.exact
      c.append_bytes-2.ensures.exact;
}
