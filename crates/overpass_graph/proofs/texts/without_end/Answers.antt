use Rattle.std.proofs.Common.{◌∙◌, sym, arith}
use Rattle.overpass_graph.proofs.TextLemmas.{end-less, end-stays}
use Rattle.overpass_graph.proofs.texts.without_end.Goals as goal

pub end-preserved : goal.end-preserved
end-preserved c = record {
  within = omega (arith, c.end.invariant.within);
  same = sym (end-less c.args.text.now c.end.end (omega arith) c.end.invariant.within c.if-text-end-ne32.false) ∙ c.end.invariant.same;
}

pub returns-then-text-end-ne32 : goal.returns-then-text-end-ne32
returns-then-text-end-ne32 c = record {
  value = sym (end-stays c.args.text.now c.end.end (omega arith) c.end.invariant.within c.if-text-end-ne32.true) ∙ c.end.invariant.same;
}
