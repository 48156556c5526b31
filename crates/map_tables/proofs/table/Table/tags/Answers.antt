use Rattle.std.proofs.Common.{◌∙◌, ap, arith, sym, slice_get}
use Rattle.map_tables.proofs.TableLemmas.{kept_from-row}
use Rattle.map_tables.proofs.table.Table.tags.Goals as goal

pub returns-in-None : goal.returns-in-None
returns-in-None g c = record {
  value = λ k at. c.self.invariant.none ∙ sym c.in-None.ensures.value
      ∙ (kept_from-row c.self.inside.lists 0 c.self.inside.rows.entries c.args.place c.args.place c.index.result.now k
      (omega arith) c.index.ensures (ap (λ ks. slice_get ks c.args.place) c.self.view_is ∙ at)).1;
}

pub returns-in-Some : goal.returns-in-Some
returns-in-Some g c = record {
  value = λ k at. c.in-Some.ensures.value
      ∙ (kept_from-row c.self.inside.lists 0 c.self.inside.rows.entries c.args.place c.args.place c.index.result.now k
      (omega arith) c.index.ensures (ap (λ ks. slice_get ks c.args.place) c.self.view_is ∙ at)).1;
}
