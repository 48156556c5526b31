use Rattle.std.proofs.Common.{arith}
use Rattle.edge_memory.proofs.PlaceLemmas.{shot-of}
use Rattle.edge_memory.proofs.cue.shot_at.Goals as goal

pub returns : goal.returns
returns c = record {
  exact = shot-of c.args.script.now c.args.place c.args.used c.args.most c.index-script-place.result c.cue_of-cue.result c.moved-next.result
      (omega arith) c.index-script-place.is c.requires.playable c.cue_of-cue.ensures.exact c.moved-next.ensures.exact;
}
