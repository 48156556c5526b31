use Rattle.nogo_areas.proofs.FenceLemmas.{clears-and}
use Rattle.nogo_areas.proofs.touch.Fences.mask.Goals as goal

pub returns : goal.returns
returns c = record {
  clears = λ circles sound.
      clears-and circles c.args.a c.args.b _ c.mask-4.result (clears-and circles c.args.a c.args.b _ c.mask-3.result
      (clears-and circles c.args.a c.args.b c.mask.result c.mask-2.result (c.mask.ensures.clears circles sound.south)
      (c.mask-2.ensures.clears circles sound.north))
      (c.mask-3.ensures.clears circles sound.west)) (c.mask-4.ensures.clears circles sound.east);
}
