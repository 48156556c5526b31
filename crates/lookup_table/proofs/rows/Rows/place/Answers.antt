use Rattle.std.proofs.Common.{◌≡◌, ◌∙◌, ap}
use Rattle.lookup_table.specs.Tag.{name_place, place_of}
use Rattle.lookup_table.proofs.RowLemmas.{position-name_place, within_rows}
use Rattle.lookup_table.proofs.rows.Rows.place.Goals as goal

pub returns : goal.returns
returns c =
    let found : c.get_index_of.result ≡ place_of c.args.self.now c.args.name.now =
    c.get_index_of.ensures.index
    ∙ position-name_place c.args.name.now c.self.inside.names.keys
    ∙ ap (λ names. name_place names c.args.name.now) c.self.invariant.names
    ∙ ap (λ rows. place_of rows c.args.name.now) c.self.view_is in
    record { value = found; fits = within_rows c.args.self.now c.args.name.now c.get_index_of.result found }
