use Rattle.std.proofs.Common.{◌≡◌, ◌∙◌, ap, sym, subst, set, arith}
use Rattle.std.proofs.lemmas.List.{length-set}
use Rattle.std.proofs.Math.Seq.{map-set_same}
use Rattle.lookup_table.specs.Tag.{AreDistinct, names_of}
use Rattle.lookup_table.proofs.TagLemmas.{AreSound-set}
use Rattle.lookup_table.proofs.rows.Rows.add_to.Goals as goal

pub invariant_of-self : goal.invariant_of-self
invariant_of-self c =
    let rows = c.self.inside.tags.items in
    let same : names_of (set rows c.args.place c.add_value.new.self) ≡ names_of rows =
    map-set_same (λ t. t.name) rows c.args.place c.add_value.new.self c.index_mut.result.now
    (c.add_value.ensures.same ∙ ap (λ t. t.name) c.index_mut.ensures.value) in
    record {
      names = c.self.invariant.names ∙ sym same;
      distinct = subst AreDistinct (sym same) c.self.invariant.distinct;
      few = omega (arith, length-set rows c.args.place c.add_value.new.self, c.self.invariant.few);
      sound = AreSound-set rows c.args.place c.add_value.new.self c.self.invariant.sound c.add_value.ensures.sound;
    }
