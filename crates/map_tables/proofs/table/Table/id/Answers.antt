use Rattle.std.proofs.Common.{◌∙◌, ap, sym, slice_get, w64}
use Rattle.std.proofs.lemmas.Int.{to_z-of_z}
use Rattle.map_tables.proofs.TableLemmas.{kept_from-id}
use Rattle.map_tables.proofs.table.Table.id.Goals as goal

pub returns : goal.returns
returns g c = record {
  value = λ k at. to_z-of_z w64 c.id_at.result (record { sfits = c.id_at.type_inv })
      ∙ kept_from-id c.self.inside.lists 0 c.self.inside.rows.entries c.args.place c.id_at.result k
      (ap (λ ids. slice_get ids c.args.place) (sym (c.as_slice.ensures ∙ c.keys.ensures.rest)) ∙ c.id_at.ensures.value)
      (ap (λ ks. slice_get ks c.args.place) c.self.view_is ∙ at);
}
