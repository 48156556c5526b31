use Rattle.std.proofs.Common.{◌∙◌, ap, arith, slice_get, List}
use Rattle.map_tables.specs.Kept.{Tag, first_tags}
use Rattle.map_tables.proofs.ListLemmas.{there}
use Rattle.map_tables.proofs.TableLemmas.{kept_from-row, kept_from-tags, IsTable-set}
use Rattle.map_tables.proofs.table.Table.again.Goals as goal

pub invariant_of-self : goal.invariant_of-self
invariant_of-self g c =
    let here = there c.args.self.now c.args.place c.requires.fits in
    let at = ap (λ ks. slice_get ks c.args.place) c.self.view_is ∙ here.1 in
    IsTable-set c.self.inside.lists c.fill.new.self c.args.place c.in-Ok.ensures.others g.C.Content.size
    c.self.inside.no_tags c.self.inside.total c.self.inside.rows.entries c.self.invariant _ here.0 at
    (kept_from-row c.self.inside.lists 0 c.self.inside.rows.entries c.args.place c.args.place c.index_mut.result.now
    here.0 (omega arith) c.index_mut.ensures.value at).0

pub returns-in-Ok-clause-value : goal.returns-in-Ok-clause-value
returns-in-Ok-clause-value g c = λ k at.
    let row = kept_from-row c.self.inside.lists 0 c.self.inside.rows.entries c.args.place c.args.place
    c.index.result.now k (omega arith) c.index.ensures (ap (λ ks. slice_get ks c.args.place) c.self.view_is ∙ at) in
    kept_from-tags c.self.inside.lists c.fill.new.self c.args.place c.in-Ok.ensures.others c.self.inside.rows.entries
    c.args.self.now c.index_mut.result.now k c.in-Ok.list _ c.self.view_is c.index_mut.ensures.value at
    (c.in-Ok.ensures.value ∙ ap (λ (own : List Tag). first_tags own c.args.tags) row.1)
