use Rattle.std.proofs.Common.{◌≡◌, ◌-◌, length, drop}
use Rattle.profile_code.specs.Machine.{exec, run_of}
use Rattle.profile_code.specs.Step.{given_of}
use Rattle.profile_code.proofs.run.run_section.Given as goal

abbrev pub invariant-run : goal.invariant-run
invariant-run l =
    let given = given_of l.fn.numbers l.fn.global l.fn.stack l.fn.own in
    record {
      goes_on : exec given (drop l.at l.instrs) 0 l.stack.numbers l.own.numbers ≡ run_of given l.instrs;
      same : l.stack.room ≡ l.fn.stack.room;
      kept : l.own.room ≡ l.fn.own.room;
    }

abbrev pub decreases-run : goal.decreases-run
decreases-run l = length l.instrs - l.at
