use Rattle.std.proofs.Common.{◌≡◌}
use Rattle.nogo_areas.specs.Cuttings.{IsCutting, judged}
use Rattle.nogo_areas.proofs.cutting.Cutting.more.Given as goal

abbrev pub invariant-links : goal.invariant-links
invariant-links l = record {
  over : IsCutting l.map l.circles l.self;
  at : l.link ≡ judged l.self;
}
