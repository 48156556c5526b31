use Rattle.std.proofs.Common.{◌∙◌, sym}
use Rattle.map_elements.proofs.CutLemmas.{cut_entry}
use Rattle.map_elements.proofs.steps.entries.take_entry.Goals as goal

pub returns-else-closes : goal.returns-else-closes
returns-else-closes c = record {
  value = cut_entry _ c.args.left.now _ _ _ _ (record {
    step = _;
    rest = _;
    begins = c.in-Some.ensures.value.before.is;
    no_key = c.requires.no_name;
    opens = sym (c.closes.ensures.value c.in-Some.ensures.value.before.text) ∙ c.if-closes.false;
    sized = c.value_size-size.ensures.size;
    ended = c.value_size-size.ensures.ends;
    front = c.split-value.ensures.front;
    back = c.split-value.ensures.back;
  });
}
