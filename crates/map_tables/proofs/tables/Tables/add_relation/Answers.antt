use Rattle.std.proofs.Common.{◌∙◌, ap, sym, List}
use Rattle.map_tables.specs.declared.member.Member.{Member}
use Rattle.map_tables.specs.Kept.{Kept}
use Rattle.map_tables.specs.Draft.{Draft, IsWithin, beyond_members, with_relations}
use Rattle.map_tables.specs.Held.{Held}
use Rattle.map_tables.proofs.KeptLemmas.{Becomes-keeps}
use Rattle.map_tables.proofs.WithinLemmas.{IsWithin-relations}
use Rattle.map_tables.proofs.tables.Tables.add_relation.Goals as goal

pub invariant_of-self : goal.invariant_of-self
invariant_of-self c =
    let draft : Draft = record {
      nodes = c.self.inside.nodes;
      ways = c.self.inside.ways;
      relations = c.self.inside.relations;
    } in
    Becomes-keeps (λ (relations : List (Kept (List Member))). IsWithin c.self.inside.limits (with_relations draft relations))
    c.add.result c.self.inside.relations c.add.new.self _ c.add.ensures.exact c.self.invariant
    (IsWithin-relations c.self.inside.limits draft c.self.invariant _ _ _
    (c.beyond_members-beyond.ensures.value
    ∙ ap (λ (held : Held). beyond_members held.limits held.draft c.args.members.now) (sym c.self.view_is)))
