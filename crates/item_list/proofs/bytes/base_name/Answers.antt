use Rattle.std.proofs.Common.{arith, ◌≡◌}
use Rattle.item_list.proofs.PathLemmas.{plain-begin, plain-more, base-after_slash, base-whole}
use Rattle.item_list.proofs.bytes.base_name.Goals.{then-back-test+else-path-start-ne47, else-back-test}
use Rattle.item_list.proofs.bytes.base_name.Goals as goal

pub back-init : goal.back-init
back-init c = plain-begin c.args.path.now

pub bounds-path-start : goal.bounds-path-start
bounds-path-start c = omega (arith, c.back.invariant.within, c.back-test.true)

pub back-preserved : goal.back-preserved
back-preserved c =
    plain-more c.args.path.now c.back.start (omega (arith, c.back-test.true)) (search) c.back.invariant

pub returns : goal.returns
returns c =
    record {
      exact = elim c.back-test.branch [
        | then-back-test+else-path-start-ne47 w ↦
            base-after_slash c.args.path.now c.back.start (omega (arith, w.back-test.true)) w.if-path-start-ne47.false c.back.invariant
        | else-back-test w ↦
            let none : c.back.start ≡ 0 = omega (arith, w.back-test.false) in
            base-whole c.args.path.now c.back.start none c.back.invariant
      ];
    }
