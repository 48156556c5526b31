use Rattle.std.proofs.Common.{◌∙◌, ap, sym, List}
use Rattle.geo_int.specs.Place.{Place}
use Rattle.map_tables.specs.Kept.{Kept}
use Rattle.map_tables.specs.Draft.{Draft, IsWithin, beyond_nodes, with_nodes}
use Rattle.map_tables.specs.Held.{Held}
use Rattle.map_tables.proofs.KeptLemmas.{Becomes-keeps}
use Rattle.map_tables.proofs.WithinLemmas.{IsWithin-nodes}
use Rattle.map_tables.proofs.tables.Tables.add_node.Goals as goal

pub invariant_of-self : goal.invariant_of-self
invariant_of-self c =
    let draft : Draft = record {
      nodes = c.self.inside.nodes;
      ways = c.self.inside.ways;
      relations = c.self.inside.relations;
    } in
    Becomes-keeps (λ (nodes : List (Kept Place)). IsWithin c.self.inside.limits (with_nodes draft nodes))
    c.add.result c.self.inside.nodes c.add.new.self _ c.add.ensures.exact c.self.invariant
    (IsWithin-nodes c.self.inside.limits draft c.self.invariant _ _ _
    (c.beyond_nodes-beyond.ensures.value ∙ ap (λ (held : Held). beyond_nodes held.limits held.draft) (sym c.self.view_is)))
