use Rattle.std.proofs.Common.{◌∙◌, ◌-◌, ◌^◌, sym, ap, arith}
use Rattle.profile_code.specs.Step.{given_of}
use Rattle.profile_code.proofs.RunLemmas.{State, run_from, given_same, goes_on, drop_capped}
use Rattle.profile_code.proofs.run.run_section.Goals as goal

pub run-preserved : goal.run-preserved
run-preserved c =
    let given = given_of c.args.numbers.now c.args.global.now c.args.stack.now c.args.own.now in
    let instrs = c.args.instrs.now in
    let before : State = record { stack = c.run.stack.numbers; own = c.run.own.numbers } in
    let after : State = record { stack = c.step.new.stack.numbers; own = c.step.new.own.numbers } in
    let same =
    given_same c.args.numbers.now c.args.global.now c.run.stack c.args.stack.now c.run.own c.args.own.now
    c.run.invariant.same c.run.invariant.kept in
    record {
      goes_on =
          ap (λ rest. run_from given rest after)
          (sym (drop_capped instrs c.run.at c.in-Ok.passed c.saturating_add-at.result (2 ^ 64 - 1) (omega arith) (omega arith)))
          ∙ sym (goes_on given instrs _ c.run.at c.in-Ok.passed c.index-instrs-at.result before after same
          c.run-test.true c.index-instrs-at.is c.in-Ok.ensures.exact)
          ∙ c.run.invariant.goes_on;
      same = c.step.ensures.same ∙ c.run.invariant.same;
      kept = c.step.ensures.kept ∙ c.run.invariant.kept;
    }
