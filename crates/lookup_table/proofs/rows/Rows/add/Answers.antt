use Rattle.std.proofs.Common.{◌≡◌, ◌∙◌, List, sym, refl, length, subst, OnOk, arith}
use Rattle.std.proofs.lemmas.Bool.Decides.{nat_tests}
use Rattle.lookup_table.specs.Tag.{TagRow}
use Rattle.lookup_table.proofs.RowLemmas.{add_line-new, add_line-old, has_room-new, has_room-old}
use Rattle.lookup_table.proofs.rows.Rows.add.Goals as goal

pub add_to-requires-clause-room : goal.add_to-requires-clause-room
add_to-requires-clause-room c =
    let room = has_room-old c.args.self.now c.args.name.now c.in-Some.place (sym c.in-Some.ensures.value) ∙ c.requires.room in
    grind (arith, nat_tests, room)

pub add_tag-requires-clause-room : goal.add_tag-requires-clause-room
add_tag-requires-clause-room c =
    let room = has_room-new c.args.self.now c.args.name.now (length c.args.self.now) (sym c.in-None.ensures.value) refl ∙ c.requires.room in
    grind (arith, nat_tests, room)

pub returns-in-None : goal.returns-in-None
returns-in-None c = record {
  value = subst (λ (rows : List TagRow). OnOk c.add_tag.result (c.add_tag.new.self ≡ rows))
      (sym (add_line-new c.args.self.now c.args.name.now _ (sym c.in-None.ensures.value))) c.add_tag.ensures.value;
}

pub returns-in-Some : goal.returns-in-Some
returns-in-Some c = record {
  value = subst (λ (rows : List TagRow). OnOk c.add_to.result (c.add_to.new.self ≡ rows))
      (sym (add_line-old c.args.self.now c.args.name.now _ c.in-Some.place (sym c.in-Some.ensures.value))) c.add_to.ensures.value;
}
