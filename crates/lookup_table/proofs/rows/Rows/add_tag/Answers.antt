use Rattle.std.proofs.Common.{◌≡◌, ◌∙◌, ◌∷◌, ◌++◌, ◌≤◌, [], length, arith, length-append, None, ap, sym, subst}
use Rattle.lookup_table.specs.Index.{IsIndexed}
use Rattle.lookup_table.specs.Tag.{place_of}
use Rattle.lookup_table.proofs.TagLemmas.{AreSound-append}
use Rattle.lookup_table.proofs.RowLemmas.{names_more, distinct_more}
use Rattle.lookup_table.proofs.rows.Rows.add_tag.Goals as goal

pub invariant_of-self-in-Ok : goal.invariant_of-self-in-Ok
invariant_of-self-in-Ok c =
    let rows = c.self.inside.tags.items in
    let tag = c.add_value.new.self in
    let name_is : tag.name ≡ c.args.name.now = c.in_ok-add_value.ensures.same ∙ ap (λ t. t.name) c.in_ok-tag.ensures.value in
    let none : place_of rows tag.name ≡ None =
    ap (place_of rows) name_is ∙ ap (λ r. place_of r c.args.name.now) c.self.view_is ∙ c.requires.new in
    let keys = c.self.inside.names.keys in
    let same = c.self.invariant.names in
    let few : length (rows ++ tag ∷ []) ≤ 1024 = omega (arith, length-append rows (tag ∷ []), ap length c.self.view_is, c.requires.room) in
    let next : IsIndexed c.insert.new.self.keys (rows ++ tag ∷ []) = record {
      names = names_more keys rows tag same none c.insert.new.self.keys c.in_ok-key.key
          (c.in_ok-key.ensures.items ∙ sym name_is) c.in-Ok.ensures.keys;
      distinct = distinct_more keys rows tag same none c.self.invariant.distinct;
      few = few;
      sound = AreSound-append rows tag c.self.invariant.sound c.in_ok-add_value.ensures.sound;
    } in
    subst (IsIndexed c.insert.new.self.keys) (sym c.in_ok-push.ensures.items) next
