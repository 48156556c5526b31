use Rattle.std.proofs.Common.{subst}
use Rattle.way_class.specs.Bound.{AreWaysBound}
use Rattle.way_class.proofs.BoundLemmas.{refused-second}
use Rattle.way_class.proofs.PartLemmas.{or-second}
use Rattle.way_class.proofs.StageLemmas.{classes-parts, classes-within, classes-works}
use Rattle.way_class.proofs.binder.Binder.more_classes.Goals as goal

pub returns-in-Ok-clause-within : goal.returns-in-Ok-clause-within
returns-in-Ok-clause-within c =
    classes-within c.args.map.now c.args.self.now c.more_nodes.new.scratch c.more_ways.new.ways c.more_nodes.new.nodes
    c.args.budget c.in_ok-left.left c.in-Ok.rest c.requires.within c.in_ok-left.ensures.advances
    c.in_ok-left.ensures.same c.in-Ok.ensures.advances c.in-Ok.ensures.same

pub returns-in-Ok-clause-parts : goal.returns-in-Ok-clause-parts
returns-in-Ok-clause-parts c =
    classes-parts c.args.map.now c.args.self.now c.more_nodes.new.scratch c.more_ways.new.ways c.more_nodes.new.nodes
    c.args.budget c.in_ok-left.left c.in-Ok.rest c.requires.within c.in_ok-left.ensures.advances
    c.in_ok-left.ensures.same c.in-Ok.ensures.advances c.in-Ok.ensures.same

pub returns-in-Ok-clause-works : goal.returns-in-Ok-clause-works
returns-in-Ok-clause-works c =
    classes-works c.args.map.now c.args.self.now c.more_nodes.new.scratch c.more_ways.new.ways c.more_nodes.new.nodes
    c.args.budget c.in_ok-left.left c.in-Ok.rest c.requires.within c.in_ok-left.ensures.advances
    c.in_ok-left.ensures.same c.in-Ok.ensures.advances c.in-Ok.ensures.same

pub returns-in-Err-clause-exact : goal.returns-in-Err-clause-exact
returns-in-Err-clause-exact c = λ subject suits bound.
    or-second (refused-second subject c.args.map.now c.more_ways.new.ways c.in-Err.e
    (subst (λ n. AreWaysBound subject c.args.map.now n c.more_ways.new.ways)
    (c.in_ok-left.ensures.whole c.in-Err.ensures.some)
    (c.in_ok-left.ensures.exact subject suits bound.ways)))
    (c.in-Err.ensures.exact subject suits bound.nodes)
