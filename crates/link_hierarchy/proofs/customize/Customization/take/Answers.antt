use Rattle.std.proofs.Common.{get_or, subst}
use Rattle.std.proofs.lemmas.List.{get_or_default}
use Rattle.link_hierarchy.specs.Arcs.{arc_from}
use Rattle.link_hierarchy.specs.Customizing.{LowersEdge}
use Rattle.link_hierarchy.proofs.BaseLemmas.{arc-there}
use Rattle.link_hierarchy.proofs.CustomizingLemmas.{arc-taken}
use Rattle.link_hierarchy.proofs.customize.Customization.take.Goals as goal

pub lower_edge-requires-clause-linked : goal.lower_edge-requires-clause-linked
lower_edge-requires-clause-linked c apart =
    c.requires.covers _ _ _ (arc-there c.args.arcs.now c.args.self.now.taken (arc_from 0 0 0) c.requires.there) apart

pub returns-clause-on : goal.returns-clause-on
returns-clause-on c =
    arc-taken c.args.topology.now c.args.arcs.now c.args.self.now c.lower_edge.new.weights
    (get_or c.args.arcs.now c.args.self.now.taken (arc_from 0 0 0)) c.requires.there
    (get_or_default c.args.arcs.now c.args.self.now.taken _ _ c.requires.there)
    (subst (λ n. LowersEdge c.args.topology.now c.args.self.now.weights c.lower_edge.new.weights
    (get_or c.args.arcs.now c.args.self.now.taken (arc_from 0 0 0)).from
    (get_or c.args.arcs.now c.args.self.now.taken (arc_from 0 0 0)).to n) c.min.ensures c.lower_edge.ensures.lowers) c.requires.on
