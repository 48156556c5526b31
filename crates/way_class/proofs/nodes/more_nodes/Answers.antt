use Rattle.std.proofs.Common.{◌≡◌, ◌<◌, ◌∙◌, suc, ap, length, refl, sym, subst, arith}
use Rattle.way_class.specs.Bound.{AreNodesBound}
use Rattle.way_class.specs.Refusals.{node_refusal}
use Rattle.way_class.specs.Stages.{nodes_at}
use Rattle.way_class.proofs.PartLemmas.{first-found, or-second, node-unrefused}
use Rattle.way_class.proofs.SpendingLemmas.{advances-none, class-more}
use Rattle.way_class.proofs.nodes.more_nodes.Goals as goal

pub nodes-init : goal.nodes-init
nodes-init c =
    let first : c.len-first.result ≡ length c.args.nodes.now.numbers.items =
    omega (arith, c.len-first.ensures, c.args.nodes.now.numbers.ok.0) in
    record {
      held = c.requires.held;
      count = sym first;
      bound = λ subject suits is. subst (λ n. AreNodesBound subject c.args.map.now n c.args.nodes.now) (sym first) is;
      advances = advances-none c.args.weight c.args.budget (length c.args.map.now.nodes)
          (nodes_at c.args.weight (length c.args.map.now.nodes) c.args.nodes.now) c.requires.within;
      same = λ all. refl;
    }

pub nodes-preserved : goal.nodes-preserved
nodes-preserved c =
    let some : 0 < c.nodes.left = omega (arith, c.if-left-eq0.false) in
    let below : length c.nodes.nodes.numbers.items < length c.args.map.now.nodes = omega
    (arith, c.nodes-count.ensures.value, c.nodes-test.true, c.nodes.invariant.count) in
    let before : c.len-before.result ≡ length c.nodes.nodes.kept.items.items =
    omega (arith, c.len-before.ensures, c.nodes.nodes.kept.items.ok.0) in
    let after : c.len.result ≡ length c.add_node.new.nodes.kept.items.items =
    omega (arith, c.len.ensures, c.add_node.new.nodes.kept.items.ok.0) in
    record {
      held = c.in_default.ensures.kept;
      count = omega (arith, c.in_default.ensures.counts, c.nodes.invariant.count);
      bound = λ subject suits is.
          c.in_default.ensures.exact subject suits (c.nodes.invariant.bound subject suits is);
      advances = class-more c.args.weight c.args.budget c.nodes.left c.left_after-left.result
          (length c.args.map.now.nodes) (length c.nodes.nodes.numbers.items) (length c.nodes.nodes.kept.items.items)
          (length c.add_node.new.nodes.kept.items.items) (length c.add_node.new.nodes.numbers.items)
          (nodes_at c.args.weight (length c.args.map.now.nodes) c.args.nodes.now) c.nodes.invariant.advances
          c.in_default.ensures.counts below some c.in_default.ensures.adds
          (λ same. c.left_after-left.ensures.known (after ∙ same ∙ sym before))
          (λ one. c.left_after-left.ensures.evaluated (after ∙ one ∙ ap suc (sym before)));
      same = λ all. absurd (omega (arith, c.nodes.invariant.advances.grows));
    }

pub returns-in-Err-clause-exact : goal.returns-in-Err-clause-exact
returns-in-Err-clause-exact c = λ subject suits is.
    let bound : AreNodesBound subject c.args.map.now c.nodes.node c.nodes.nodes = c.nodes.invariant.bound subject suits is in
    let below : c.nodes.node < length c.args.map.now.nodes = omega (arith, c.nodes-count.ensures.value, c.nodes-test.true) in
    or-second
    (λ refused. first-found (node_refusal subject c.args.map.now) c.nodes.node (length c.args.map.now.nodes) _
    (λ node before. node-unrefused subject c.args.map.now node (bound.each node before).class
    (bound.each node before).means) refused below)
    (c.in-Err.ensures.exact subject suits bound)

pub returns-in-Err-clause-some : goal.returns-in-Err-clause-some
returns-in-Err-clause-some c = omega (arith, c.if-left-eq0.false, c.nodes.invariant.advances.spends.fits)
