use Rattle.std.proofs.Common.{arith}
use Rattle.nogo_areas.specs.Cuttings.{judged}
use Rattle.nogo_areas.proofs.CutLemmas.{cut-whole}
use Rattle.nogo_areas.proofs.cutting.Cutting.into_cut.Goals as goal

pub returns : goal.returns
returns c = record {
  exact = λ roads circles is all. cut-whole roads circles (judged c.args.self) c.args.self.cut.items (omega (arith, all)) is.cut;
}
