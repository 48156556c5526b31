use Rattle.std.proofs.Common.{◌∙◌, ap, sym, List, ℤ}
use Rattle.map_tables.specs.Kept.{Kept}
use Rattle.map_tables.specs.Draft.{Draft, IsWithin, beyond_ways, with_ways}
use Rattle.map_tables.specs.Held.{Held}
use Rattle.map_tables.proofs.KeptLemmas.{Becomes-keeps}
use Rattle.map_tables.proofs.WithinLemmas.{IsWithin-ways}
use Rattle.map_tables.proofs.tables.Tables.add_way.Goals as goal

pub invariant_of-self : goal.invariant_of-self
invariant_of-self c =
    let draft : Draft = record {
      nodes = c.self.inside.nodes;
      ways = c.self.inside.ways;
      relations = c.self.inside.relations;
    } in
    Becomes-keeps (λ (ways : List (Kept (List ℤ))). IsWithin c.self.inside.limits (with_ways draft ways))
    c.add.result c.self.inside.ways c.add.new.self _ c.add.ensures.exact c.self.invariant
    (IsWithin-ways c.self.inside.limits draft c.self.invariant _ _ _
    (c.beyond_ways-beyond.ensures.value
    ∙ ap (λ (held : Held). beyond_ways held.limits held.draft c.args.nodes.now) (sym c.self.view_is)))
