-- The element of steps of which the front tells the first names.
use Rattle.std.proofs.Common.{Option, List, subst, sym}
use lib.Chars.{codes}
use Rattle.item_list.specs.Answer.{Answers}
use Rattle.map_tables.specs.declared.error.MapError.TheVariants.{NoMemory}
use Rattle.map_elements.specs.Elements.{element_by, element_of, need}
use Rattle.map_elements.specs.Entries.{Entry, member}
use Rattle.map_elements.specs.Fields.{with_some, text_of}
use Rattle.map_elements.specs.Seen.{seen}
use Rattle.map_elements.proofs.FrontLemmas.{members_told}
use Rattle.map_elements.proofs.elements.read_ended.Goals as goal

pub returns-in_default-front : goal.returns-in_default-front
returns-in_default-front c = record {
  exact =
      subst (λ steps. Answers seen (element_of c.args.at steps) NoMemory c.read_members_of.result) c.kept-front.ensures.value
      (subst (λ (o : Option (List Entry)). Answers seen (need c.args.at o (λ entries.
      need c.args.at (with_some (member (codes "type") entries) text_of) (λ type. element_by type c.args.at entries))) NoMemory
      c.read_members_of.result) (sym (members_told c.kept-front.result.0 c.kept-front.result.1 c.in_default-front.not-Bare))
      c.read_members_of.ensures.exact);
}
