use Rattle.std.proofs.Common.{◌∙◌, ap}
use Rattle.lookup_table.specs.Tag.{number_in}
use Rattle.lookup_table.proofs.TagLemmas.{lookup-by_bytes}
use Rattle.lookup_table.proofs.tag.Tag.number.Goals as goal

pub returns : goal.returns
returns c = record {
  value =
      c.copied.ensures
      ∙ c.get.ensures.value
      ∙ lookup-by_bytes c.args.spelling.now c.self.inside.numbers.entries
      ∙ ap (λ t. number_in t.numbers c.args.spelling.now) c.self.view_is;
}
