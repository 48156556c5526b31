use Rattle.std.proofs.Common.{◌∙◌, ap, arith, slice_get}
use Rattle.map_tables.proofs.TableLemmas.{kept_from-row}
use Rattle.map_tables.proofs.table.Table.content.Goals as goal

pub returns : goal.returns
returns g c = record {
  value = λ k at. (kept_from-row c.self.inside.lists 0 c.self.inside.rows.entries c.args.place c.args.place
      c.index.result.now k (omega arith) c.index.ensures (ap (λ ks. slice_get ks c.args.place) c.self.view_is ∙ at)).0;
}
