-- The tables of a text that has ended.
use Rattle.std.proofs.Common.{inr, sym, ◌∙◌}
use Rattle.map_elements.proofs.ReadingLemmas.{ended_tables, ended_shape}
use Rattle.map_elements.proofs.reading.Reading.into_tables.Goals as goal

-- there is a list of elements
pub returns-then-has_list : goal.returns-then-has_list
returns-then-has_list c = record {
  value = λ limits bytes read. ended_tables limits c.args.self bytes read (sym c.has_list.ensures.value ∙ c.if-has_list.true);
}

-- there is none
pub returns-else-has_list : goal.returns-else-has_list
returns-else-has_list c = record {
  value = λ limits bytes read. inr (ended_shape limits c.args.self bytes read (sym c.has_list.ensures.value ∙ c.if-has_list.false));
}
