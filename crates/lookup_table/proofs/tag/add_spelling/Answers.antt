use Rattle.std.proofs.Common.{◌≡◌, ◌∙◌, ℕ, List, sym, subst, None}
use Rattle.std.specs.Map.{lookup}
use Rattle.std.specs.Str.{bytes_eq}
use Rattle.indexmap.proofs.CallerLemmas.{insert_entry-new}
use Rattle.lookup_table.specs.Spelled.{spelled}
use Rattle.lookup_table.specs.Tag.{add_spelling}
use Rattle.lookup_table.proofs.TagLemmas.{KeepWithin-spelling, kept_spelling, new_spelling, absent}
use Rattle.lookup_table.proofs.tag.add_spelling.Goals as goal

pub returns-in_ok-insert : goal.returns-in_ok-insert
returns-in_ok-insert c =
    let key = c.in_ok-from_slice.field-0 in
    let none : lookup (λ k. bytes_eq c.args.spelling.now k.items) c.args.numbers.now.entries ≡ None =
    absent _ c.if-not-contains_key.ensures in
    let own : lookup (λ k. bytes_eq key.items k.items) c.args.numbers.now.entries ≡ None =
    subst (λ (s : List ℕ). lookup (λ k. bytes_eq s k.items) c.args.numbers.now.entries ≡ None)
    (sym c.in_ok-from_slice.ensures.items) none in
    let value : spelled c.insert.new.self ≡ add_spelling (spelled c.args.numbers.now) c.args.number c.args.spelling.now =
    new_spelling c.args.spelling.now c.args.number c.args.numbers.now.entries c.insert.new.self.entries key c.in_ok-from_slice.ensures.items
    (c.in_ok-insert.ensures.entries ∙ insert_entry-new (λ x y. bytes_eq x.items y.items) c.args.numbers.now key c.args.number own)
    c.if-not-contains_key.ensures in
    record {
      value = value;
      sound = KeepWithin-spelling (spelled c.args.numbers.now) (spelled c.insert.new.self) c.args.number c.args.spelling.now value;
    }

pub returns-else-not-contains_key : goal.returns-else-not-contains_key
returns-else-not-contains_key c = record {
  value = kept_spelling c.args.spelling.now c.args.number c.args.numbers.now.entries c.if-not-contains_key.ensures;
  sound = λ values two le within. within;
}
