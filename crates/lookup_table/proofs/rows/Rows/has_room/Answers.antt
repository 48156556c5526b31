use Rattle.std.proofs.Common.{[], ◌∙◌, ap, sym, length, nat_lt}
use Rattle.std.proofs.lemmas.Option.{get_or_from_slice_get}
use Rattle.lookup_table.specs.Tag.{empty_tag}
use Rattle.lookup_table.proofs.RowLemmas.{has_room-new, has_room-old}
use Rattle.lookup_table.proofs.rows.Rows.has_room.Goals as goal

pub returns-in-None : goal.returns-in-None
returns-in-None c = record
    { value = has_room-new c.args.self.now c.args.name.now c.len.result (sym c.in-None.ensures.value) c.len.ensures.value }

pub returns-in-Some : goal.returns-in-Some
returns-in-Some c = record {
  value =
      ap (λ n. nat_lt n 4096)
      (c.len-in-Some.ensures.value
      ∙ ap (λ t. length t.firsts) (sym (get_or_from_slice_get c.args.self.now c.in-Some.place _ (empty_tag []) c.tag.ensures.value)))
      ∙ has_room-old c.args.self.now c.args.name.now c.in-Some.place (sym c.in-Some.ensures.value);
}
