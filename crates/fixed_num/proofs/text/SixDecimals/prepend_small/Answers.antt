use Rattle.std.proofs.Common.{◌∙◌, arith}
use Rattle.fixed_num.proofs.PrintLemmas.{WritesOn-step, WritesOn-room, WritesOn-last}
use Rattle.fixed_num.proofs.text.SixDecimals.prepend_small.Goals as goal

pub prepend-requires : goal.prepend-requires
prepend-requires c = record { room = WritesOn-room _ _ _ (omega arith) (omega arith) c.loop-rest.invariant }

pub loop-rest-preserved : goal.loop-rest-preserved
loop-rest-preserved c = let e = c.prepend.ensures.value in rw e (WritesOn-step _ _ _ (omega arith) (omega arith) c.loop-rest.invariant)

pub prepend-requires-2 : goal.prepend-requires-2
prepend-requires-2 c = record { room = (WritesOn-last _ _ _ (omega arith) c.loop-rest.invariant).0 }

pub returns : goal.returns
returns c = record { value = c.prepend-2.ensures.value ∙ (WritesOn-last _ _ _ (omega arith) c.loop-rest.invariant).1 }
