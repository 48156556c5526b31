use Rattle.std.proofs.Common.{arith}
use Rattle.fixed_num.proofs.PrintLemmas.{WritesOn-start, WritesOn-step, WritesOn-room}
use Rattle.fixed_num.proofs.text.SixDecimals.prepend_number.Goals as goal

pub prepend-requires : goal.prepend-requires
prepend-requires c = record { room = WritesOn-room _ _ _ (omega arith) (omega arith) c.loop-rest.invariant }

pub loop-rest-preserved : goal.loop-rest-preserved
loop-rest-preserved c = let e = c.prepend.ensures.value in rw e (WritesOn-step _ _ _ (omega arith) (omega arith) c.loop-rest.invariant)

pub loop-rest-init : goal.loop-rest-init
loop-rest-init c = WritesOn-start _ _ (omega arith) c.requires.room
