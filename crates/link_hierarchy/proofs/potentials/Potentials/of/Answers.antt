use Rattle.std.proofs.Common.{◌≡◌, ◌<◌, length, Some, None, subst, sym, arith}
use Rattle.std.proofs.lemmas.List.{get_or_read}
use Rattle.link_hierarchy.specs.Potentials.{at}
use Rattle.link_hierarchy.specs.Topologies.{edges_of}
use Rattle.link_hierarchy.specs.Walks.{IsLeastSumUpTo, IsLeastUpTo}
use Rattle.link_hierarchy.specs.declared.limits.TheConstants.{FAR, NONE}
use Rattle.link_hierarchy.proofs.CallerLemmas.{sum-told}
use Rattle.link_hierarchy.proofs.OverLemmas.{tells-none, tells-some}
use Rattle.link_hierarchy.proofs.potentials.Potentials.of.Goals as goal

pub returns-then-sum-le-FAR : goal.returns-then-sum-le-FAR
returns-then-sum-le-FAR c =
    let over = c.requires.found.over in
    let inside : c.args.node < length c.args.self.now.over = omega (arith, over.counted, c.requires.in_range) in
    let read : c.get-sum.result ≡ at c.args.self.now.over c.args.node =
    get_or_read c.args.self.now.over c.args.node c.get-sum.result inside c.get-sum.ensures.value NONE in
    let exact : IsLeastUpTo FAR (edges_of FAR c.args._topology.now c.args._weights.now) c.args.node c.args.self.now.targets.items c.get-sum.result =
    subst (λ n. IsLeastUpTo FAR (edges_of FAR c.args._topology.now c.args._weights.now) c.args.node c.args.self.now.targets.items n)
    (sym read)
    (tells-some FAR (edges_of FAR c.args._topology.now c.args._weights.now) c.args.node c.args.self.now.targets.items
    (at c.args.self.now.over c.args.node) (over.least c.args.node c.requires.in_range c.requires.known)
    (omega (arith, read, c.if-sum-le-FAR.true))) in
    record {
      exact = exact;
      value = λ closed.
          sum-told c.args._topology.now c.args._weights.now c.args.self.now.targets.items c.args.node (Some c.get-sum.result)
          c.nodes-nodes.ensures.lawful closed c.requires.found.targets_in c.requires.in_range exact;
    }

pub returns-else-sum-le-FAR : goal.returns-else-sum-le-FAR
returns-else-sum-le-FAR c =
    let over = c.requires.found.over in
    let inside : c.args.node < length c.args.self.now.over = omega (arith, over.counted, c.requires.in_range) in
    let read : c.get-sum.result ≡ at c.args.self.now.over c.args.node =
    get_or_read c.args.self.now.over c.args.node c.get-sum.result inside c.get-sum.ensures.value NONE in
    let exact : IsLeastSumUpTo FAR (edges_of FAR c.args._topology.now c.args._weights.now) c.args.node c.args.self.now.targets.items None =
    tells-none FAR (edges_of FAR c.args._topology.now c.args._weights.now) c.args.node c.args.self.now.targets.items
    (at c.args.self.now.over c.args.node) (over.least c.args.node c.requires.in_range c.requires.known)
    (omega (arith, read, c.if-sum-le-FAR.false)) in
    record {
      exact = exact;
      value = λ closed.
          sum-told c.args._topology.now c.args._weights.now c.args.self.now.targets.items c.args.node None
          c.nodes-nodes.ensures.lawful closed c.requires.found.targets_in c.requires.in_range exact;
    }
