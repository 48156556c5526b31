use Rattle.std.proofs.Common.{sym, arith}
use Rattle.nogo_areas.proofs.FenceLemmas.{empty-clears}
use Rattle.nogo_areas.proofs.touch.Fences.touch.Goals as goal

pub returns-then-circles-le64 : goal.returns-then-circles-le64
returns-then-circles-le64 c = record {
  exact = sym (empty-clears c.args.circles.now c.args.a c.args.b c.mask-mask.result (omega (arith, c.if-mask-eq0.true))
      (omega (arith, c.if-circles-le64.true))
      (c.mask-mask.ensures.clears c.args.circles.now c.requires.sound));
}
