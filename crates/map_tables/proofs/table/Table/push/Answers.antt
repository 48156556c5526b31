use Rattle.std.proofs.Common.{◌≡◌, ◌∙◌, ◌<◌, ◌∷◌, ◌++◌, [], ap, arith, length, refl, subst, sym, List, None, w64}
use Rattle.std.proofs.lemmas.Int.{to_z-of_z}
use Rattle.std.specs.Map.{keys_of}
use Rattle.map_tables.specs.Kept.{Tag, place_in, place_of_id}
use Rattle.map_tables.specs.Rows.{kept_from, tags_in, IsTable}
use Rattle.map_tables.proofs.TableLemmas.{ids_of-kept_from, insert_entry-new, kept_from-append, kept_from-before, IsTable-append, IsTable-unchanged}
use Rattle.map_tables.proofs.table.Table.push.Goals as goal

pub invariant_of-self-in-Ok : goal.invariant_of-self-in-Ok
invariant_of-self-in-Ok g c =
    let none : place_in c.args.id (keys_of c.self.inside.rows.entries) ≡ None =
    ap (place_in c.args.id) (sym (ids_of-kept_from c.self.inside.lists 0 c.self.inside.rows.entries))
    ∙ ap (place_of_id c.args.id) c.self.view_is ∙ c.requires.new in
    let last = insert_entry-new c.self.inside.rows.entries c.insert.new.self.entries _ c.args.id
    (record { content = c.args.content; list = c.in_ok-list.list }) (to_z-of_z w64 c.args.id c.ranges.id) none
    c.in-Ok.ensures.entries in
    let room : length c.self.inside.rows.entries < 4294967295 =
    omega (arith, c.len.ensures.len, c.in_ok-place.ensures.exact.1) in
    rw c.in_ok-total.ensures.exact (rw c.size.ensures.value (IsTable-append c.self.inside.lists c.add.new.self
    c.in_ok-place.place c.in_ok-list.ensures.others g.C.Content.size c.self.inside.no_tags c.self.inside.total
    c.self.inside.rows.entries c.self.invariant c.args.id _ c.insert.new.self.entries last
    (c.in_ok-place.ensures.exact.0 ∙ c.len.ensures.len) room))

pub returns-in-Ok-clause-value : goal.returns-in-Ok-clause-value
returns-in-Ok-clause-value g c =
    let none : place_in c.args.id (keys_of c.self.inside.rows.entries) ≡ None =
    ap (place_in c.args.id) (sym (ids_of-kept_from c.self.inside.lists 0 c.self.inside.rows.entries))
    ∙ ap (place_of_id c.args.id) c.self.view_is ∙ c.requires.new in
    ap (kept_from c.add.new.self 0) (insert_entry-new c.self.inside.rows.entries c.insert.new.self.entries _ c.args.id
    (record { content = c.args.content; list = c.in_ok-list.list }) (to_z-of_z w64 c.args.id c.ranges.id) none
    c.in-Ok.ensures.entries)
    ∙ kept_from-append c.self.inside.lists c.add.new.self c.in_ok-place.place c.in_ok-list.ensures.others 0
    c.self.inside.rows.entries c.args.id (record { content = c.args.content; list = c.in_ok-list.list })
    (omega (arith, c.in_ok-place.ensures.exact.0, c.len.ensures.len))
    ∙ ap (λ ks. ks ++ record {
      id = c.args.id;
      content = c.args.content;
      tags = tags_in c.add.new.self c.in_ok-place.place c.in_ok-list.list;
    } ∷ []) c.self.view_is
    ∙ ap (λ (tags : List Tag). c.args.self.now ++ record { id = c.args.id; content = c.args.content; tags = tags } ∷ [])
    c.in_ok-list.ensures.value

pub invariant_of-self-in-Err : goal.invariant_of-self-in-Err
invariant_of-self-in-Err g c =
    subst (IsTable g.C.Content.size c.add.new.self c.self.inside.no_tags c.self.inside.total)
    (sym c.in-Err.ensures.err)
    (IsTable-unchanged c.self.inside.lists c.add.new.self c.in_ok-place.place c.in_ok-list.ensures.others
    g.C.Content.size c.self.inside.no_tags c.self.inside.total c.self.inside.rows.entries c.self.invariant
    (omega (arith, c.in_ok-place.ensures.exact.0, c.len.ensures.len)))

pub returns-clause-kept : goal.returns-clause-kept
returns-clause-kept g c = (
  refl,
  ap (kept_from c.add.new.self 0) c.in-Err.ensures.err
      ∙ kept_from-before c.self.inside.lists c.add.new.self c.in_ok-place.place c.in_ok-list.ensures.others 0
      c.self.inside.rows.entries (omega (arith, c.in_ok-place.ensures.exact.0, c.len.ensures.len))
      ∙ c.self.view_is,
)
