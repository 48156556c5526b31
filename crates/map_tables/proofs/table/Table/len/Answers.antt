use Rattle.std.proofs.Common.{subst}
use Rattle.map_tables.specs.Kept.{AreDistinct}
use Rattle.map_tables.proofs.TableLemmas.{AreDistinct-kept_from}
use Rattle.map_tables.proofs.table.Table.len.Goals as goal

pub returns-clause-distinct : goal.returns-clause-distinct
returns-clause-distinct g c =
    subst AreDistinct c.self.view_is
    (AreDistinct-kept_from c.self.inside.lists c.self.inside.rows.entries c.len.ensures.unique)
