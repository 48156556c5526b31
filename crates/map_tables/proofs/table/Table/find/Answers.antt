use Rattle.std.proofs.Common.{◌∙◌, ap, w64}
use Rattle.std.proofs.lemmas.Int.{to_z-of_z}
use Rattle.map_tables.specs.Kept.{place_of_id}
use Rattle.map_tables.proofs.TableLemmas.{place_of_id-kept_from}
use Rattle.map_tables.proofs.table.Table.find.Goals as goal

pub returns-in-None-clause-value : goal.returns-in-None-clause-value
returns-in-None-clause-value g c =
    c.in-None.ensures.index
    ∙ place_of_id-kept_from c.self.inside.lists c.self.inside.rows.entries _ c.args.id (to_z-of_z w64 c.args.id c.ranges.id)
    ∙ ap (place_of_id c.args.id) c.self.view_is

pub returns-in-Some-clause-value : goal.returns-in-Some-clause-value
returns-in-Some-clause-value g c =
    c.in-Some.ensures.index
    ∙ place_of_id-kept_from c.self.inside.lists c.self.inside.rows.entries _ c.args.id (to_z-of_z w64 c.args.id c.ranges.id)
    ∙ ap (place_of_id c.args.id) c.self.view_is
