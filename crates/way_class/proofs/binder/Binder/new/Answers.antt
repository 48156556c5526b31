use Rattle.std.proofs.Common.{sym, subst}
use Rattle.way_class.specs.Bound.{AreNodesBound, AreWaysBound}
use Rattle.way_class.specs.declared.binder.Binder.{Binder}
use Rattle.way_class.proofs.StageLemmas.{begun-most, begun-parts, begun-within}
use Rattle.way_class.proofs.binder.Binder.new.Goals as goal

pub returns-clause-begins : goal.returns-clause-begins
returns-clause-begins c = λ table tiles fits. record {
  fits = fits;
  held = c.requires.held;
  weight = c.weight_of.ensures.exact;
  within = begun-within c.args.map.now _ c.no_ways.ensures.none c.in_ok-nodes.ensures.none c.new.ensures.items
      c.new-2.ensures.none c.new-3.ensures.items;
  parts = begun-parts c.args.map.now tiles _ c.new.ensures.items c.new-2.ensures.none c.new-3.ensures.items;
}

pub returns-clause-sound : goal.returns-clause-sound
returns-clause-sound c = λ subject. record {
  ways = subst (λ n. AreWaysBound subject c.args.map.now n c.no_ways.result) (sym c.no_ways.ensures.none)
      (c.no_ways.ensures.empty subject c.args.map.now);
  nodes = subst (λ n. AreNodesBound subject c.args.map.now n c.in_ok-nodes.nodes) (sym c.in_ok-nodes.ensures.none)
      (c.in_ok-nodes.ensures.empty subject c.args.map.now);
}

pub returns-clause-most : goal.returns-clause-most
returns-clause-most c =
    let begun : Binder = record {
      globals = c.args.globals;
      scratch = c.args.scratch;
      weight = c.weight_of.result;
      ways = c.no_ways.result;
      nodes = c.in_ok-nodes.nodes;
      heights = c.new.result;
      rows = c.new-2.result;
      lows = c.new-3.result;
    } in
    begun-most c.args.map.now begun c.args.code.now c.weight_of.ensures.exact c.no_ways.ensures.none
    c.in_ok-nodes.ensures.none
